use Rattle.std.proofs.Common.{take}
use Rattle.replay_rounds.specs.Asks.{AllAsk}
use Rattle.replay_rounds.specs.Betweens.{DoRounds}
use Rattle.replay_rounds.specs.Rounds.{AreAfter, GaveUpAsBefore}
use Rattle.replay_worker.specs.OwnLines.{lines_before}
use Rattle.replay_rounds.proofs.playing.play.Given as goal

abbrev pub invariant-loop-round : goal.invariant-loop-round
invariant-loop-round g l = record {
  after : AreAfter g.N.NameCalls l.shared.cache.now l.shared.zones.now l.shared.clock.now (lines_before l.shared.trace.now.rounds l.round) l.workers;
  rounds : DoRounds g.N.NameCalls l.shared.cache.now l.shared.zones.now (take l.round l.shared.trace.now.rounds) l.initial.workers l.workers;
  asks : AllAsk g.G.Gate l.shared.gate.now (take l.round l.shared.trace.now.rounds) l.initial.workers l.workers;
  free : g.G.Gate.is_free l.shared.gate.now → GaveUpAsBefore l.initial.workers l.workers;
}
