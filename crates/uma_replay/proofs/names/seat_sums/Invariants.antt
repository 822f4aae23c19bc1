-- The seats of the workers before this one were added.
use Rattle.uma_replay.specs.Names.{AreSeatSums}
use Rattle.uma_replay.proofs.names.seat_sums.Given as goal

abbrev pub invariant-loop-name_work : goal.invariant-loop-name_work
invariant-loop-name_work g l = AreSeatSums g.N.NameCalls l.name_work-index l.name_works l.sums
