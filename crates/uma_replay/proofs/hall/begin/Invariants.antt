-- The first workers have their seats of the names.
use Rattle.uma_replay.specs.Playing.{AreFirst}
use Rattle.uma_replay.proofs.hall.begin.Given as goal

abbrev pub invariant-loop-worker : goal.invariant-loop-worker
invariant-loop-worker g l = AreFirst g.N.NameCalls l.cache l.domains l.yielded l.runs.items
