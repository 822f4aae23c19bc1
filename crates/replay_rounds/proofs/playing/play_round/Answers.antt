use Rattle.std.proofs.Common.{◌≡◌, length, rules, subst, List}
use Rattle.trace_text.specs.declared.trace.Between.{Between}
use Rattle.replay_rounds.specs.Betweens.{DoBetweens}
use Rattle.replay_rounds.specs.Rounds.{AllMoved}
use Rattle.replay_rounds.proofs.AfterRound.{all_ready, gave_up_same}
use Rattle.replay_rounds.proofs.Asks.{asks_round}
use Rattle.replay_rounds.proofs.Done.{round_done}
use Rattle.replay_rounds.proofs.Played.{after_round, both_ok, some_workers, still_free, three_ok}
use Rattle.replay_rounds.proofs.playing.play_round.Goals as goal

pub work_round-requires-clause-some : goal.work_round-requires-clause-some
work_round-requires-clause-some g c κs within = some_workers g.N.NameCalls c.args.shared.now.cache.now c.args.shared.now.trace.now c.args.shared.now.zones.now c.args.shared.now.clock.now c.args.workers.now c.requires.suits

pub work_round-requires-clause-ready : goal.work_round-requires-clause-ready
work_round-requires-clause-ready g c κs within =
    all_ready g.N.NameCalls c.args.shared.now.cache.now c.args.shared.now.trace.now c.args.shared.now.zones.now c.args.shared.now.clock.now c.args.round c.args.workers.now c.requires.suits c.requires.after c.requires.round

pub returns-clause-played : goal.returns-clause-played
returns-clause-played g c =
    let size : length c.work_round.new.workers ≡ length c.args.workers.now = search rules in
    let M : List Between → Type 0 = λ list. AllMoved list c.work_round.new.workers c.do_betweens.new.workers in
    let D : List Between → Type 0 = λ list. DoBetweens c.args.shared.now.zones.now list c.work_round.new.workers c.do_betweens.new.workers in
    three_ok c.do_betweens.result (λ keeps moved does. record {
      after = after_round g.N.NameCalls c.args.shared.now.cache.now c.args.shared.now.trace.now c.args.shared.now.zones.now c.args.shared.now.clock.now c.args.round c.args.workers.now c.work_round.new.workers c.do_betweens.new.workers c.requires.suits c.requires.after
          size c.in_ok-all_ended.ensures c.work_round.ensures.worked keeps (subst M c.betweens_of-between.ensures moved);
      round = round_done g.N.NameCalls c.args.shared.now.cache.now c.args.shared.now.trace.now c.args.shared.now.zones.now c.args.shared.now.clock.now c.args.round c.args.workers.now c.work_round.new.workers c.do_betweens.new.workers
          size c.in_ok-all_ended.ensures c.work_round.ensures.worked (subst D c.betweens_of-between.ensures does);
      asks = asks_round g.G.Gate c.args.shared.now.gate.now c.args.shared.now.trace.now.rounds c.args.round c.args.workers.now c.work_round.new.workers c.do_betweens.new.workers size c.in_ok-all_ended.ensures c.work_round.ensures.asks keeps;
    }) c.do_betweens.ensures.rest c.do_betweens.ensures.moved c.do_betweens.ensures.does

pub returns-clause-free : goal.returns-clause-free
returns-clause-free g c free =
    let size : length c.work_round.new.workers ≡ length c.args.workers.now = search rules in
    let more : length c.do_betweens.new.workers ≡ length c.work_round.new.workers = search rules in
    both_ok c.do_betweens.result _ _ _ c.do_betweens.ensures.rest c.do_betweens.ensures.rest (λ keeps again.
    still_free c.args.workers.now c.work_round.new.workers c.do_betweens.new.workers more keeps
    (gave_up_same c.args.workers.now c.work_round.new.workers size (c.work_round.ensures.free free)))
