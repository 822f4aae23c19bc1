use Rattle.std.specs.List.{sum_by}
use Rattle.std.proofs.Common.{take}
use Rattle.uma_bucket.specs.Room.{times_held}
use Rattle.uma_bucket.specs.Sums.{Adds}
use Rattle.uma_bucket.proofs.shelved.Sums.add_tallies.Given as goal

abbrev pub invariant-loop-item : goal.invariant-loop-item
invariant-loop-item g l = Adds (λ hook. sum_by (times_held hook) (take l.item-index l.room.items)) 0 l.initial.self l.self
