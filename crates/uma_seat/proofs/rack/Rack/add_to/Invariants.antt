use Rattle.uma_bucket.specs.Shelved.{IsShelvedAt}
use Rattle.uma_seat.specs.ShelfSums.{times_shelved, deferred_shelved}
use Rattle.uma_seat.proofs.SumSteps.{SoFar}
use Rattle.uma_seat.proofs.rack.Rack.add_to.Given as goal

abbrev pub invariant-loop-at : goal.invariant-loop-at
invariant-loop-at g l = SoFar times_shelved deferred_shelved IsShelvedAt l.self.shelf.items l.initial.sums l.sums l.at
