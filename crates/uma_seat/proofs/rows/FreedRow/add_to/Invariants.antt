use Rattle.std.proofs.Common.{length}
use Rattle.uma_bucket.specs.Loose.{loose_items, loose_tickets}
use Rattle.uma_bucket.specs.Home.{AreHome}
use Rattle.uma_bucket.specs.Sums.{times_freed}
use Rattle.uma_seat.proofs.SumSteps.{SoFar}
use Rattle.uma_seat.proofs.rows.FreedRow.add_to.Given as goal

abbrev pub invariant-loop-loose : goal.invariant-loop-loose
invariant-loop-loose g l = SoFar (λ hook loose. times_freed hook (loose_items loose)) (λ loose. length (loose_items loose)) (λ home loose. AreHome home (loose_tickets loose)) l.self.buckets.items l.initial.sums l.sums l.loose-index
