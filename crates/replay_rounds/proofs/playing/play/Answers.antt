use Rattle.std.proofs.Common.{◌≡◌, ◌<◌, ◌≤◌, ◌∙◌, length, refl, rules}
use Rattle.replay_rounds.proofs.Asks.{ask_all, ask_more, ask_none}
use Rattle.replay_rounds.proofs.Done.{rounds_begun, rounds_ended, rounds_more}
use Rattle.replay_rounds.proofs.Played.{begun, ended}
use Rattle.replay_rounds.proofs.playing.play.Goals as goal

pub loop-round-init : goal.loop-round-init
loop-round-init g c = record {
  after = begun g.N.NameCalls c.args.shared.now.cache.now c.args.shared.now.trace.now c.args.shared.now.zones.now c.args.shared.now.clock.now c.args.workers.now c.requires.begun;
  rounds = rounds_begun g.N.NameCalls c.args.shared.now.cache.now c.args.shared.now.zones.now c.args.shared.now.trace.now.rounds c.args.workers.now;
  asks = ask_none g.G.Gate c.args.shared.now.gate.now c.args.shared.now.trace.now.rounds c.args.workers.now;
  free = λ free. refl;
}

pub loop-round-preserved : goal.loop-round-preserved
loop-round-preserved g c =
    let below : c.loop-round.round < length c.args.shared.now.trace.now.rounds = search rules in
    let size : length c.play_round.new.workers ≡ length c.loop-round.workers = search rules in
    record {
      after = c.in_ok-play_round.ensures.played.after;
      rounds = rounds_more g.N.NameCalls c.args.shared.now.cache.now c.args.shared.now.zones.now c.args.shared.now.trace.now.rounds c.loop-round.round c.args.workers.now c.loop-round.workers c.play_round.new.workers below c.loop-round.invariant.rounds c.in_ok-play_round.ensures.played.round;
      asks = ask_more g.G.Gate c.args.shared.now.gate.now c.args.shared.now.trace.now.rounds c.loop-round.round c.args.workers.now c.loop-round.workers c.play_round.new.workers below size c.loop-round.invariant.asks c.in_ok-play_round.ensures.played.asks;
      free = λ free. c.in_ok-play_round.ensures.free free ∙ c.loop-round.invariant.free free;
    }

pub returns-clause-played : goal.returns-clause-played
returns-clause-played g c =
    let past : length c.args.shared.now.trace.now.rounds ≤ c.loop-round.round = search rules in
    let after = ended g.N.NameCalls c.args.shared.now.cache.now c.args.shared.now.trace.now c.args.shared.now.zones.now c.args.shared.now.clock.now c.loop-round.round c.loop-round.workers past c.loop-round.invariant.after in
    record {
      stands = after.stand;
      named = after.named;
      adds_up = after.adds_up;
      rounds = rounds_ended g.N.NameCalls c.args.shared.now.cache.now c.args.shared.now.zones.now c.args.shared.now.trace.now.rounds c.loop-round.round c.args.workers.now c.loop-round.workers past c.loop-round.invariant.rounds;
      asked = after.asked;
      asks = ask_all g.G.Gate c.args.shared.now.gate.now c.args.shared.now.trace.now.rounds c.loop-round.round c.args.workers.now c.loop-round.workers past c.loop-round.invariant.asks;
    }
