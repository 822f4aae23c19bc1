use Rattle.std.proofs.Common.{take}
use Rattle.replay_rounds.specs.Betweens.{DoBetweens}
use Rattle.replay_rounds.specs.Rounds.{AllMoved}
use Rattle.replay_worker.specs.Giving.{KeepsRest}
use Rattle.replay_rounds.proofs.playing.do_betweens.Given as goal

abbrev pub invariant-loop-between : goal.invariant-loop-between
invariant-loop-between g l = record {
  rest : KeepsRest l.initial.workers l.workers;
  moved : AllMoved (take l.between-index l.betweens) l.initial.workers l.workers;
  does : DoBetweens l.zones (take l.between-index l.betweens) l.initial.workers l.workers;
}
