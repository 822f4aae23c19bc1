use Rattle.uma_bucket.specs.Bucket.{items_of, tickets_of}
use Rattle.uma_bucket.specs.Home.{AreHome}
use Rattle.uma_bucket.specs.Sums.{times_cached}
use Rattle.uma_seat.proofs.SumSteps.{SoFar}
use Rattle.uma_seat.proofs.rows.PlainRow.add_to.Given as goal

abbrev pub invariant-loop-bucket : goal.invariant-loop-bucket
invariant-loop-bucket g l = SoFar (λ hook bucket. times_cached hook (items_of bucket)) (λ bucket. 0) (λ home bucket. AreHome home (tickets_of bucket)) l.self.buckets.items l.initial.sums l.sums l.bucket-index
