use Rattle.std.proofs.Common.{rules, ◌≡◌, length, arith}
use Rattle.std.proofs.lemmas.Grind.{common_steps}
use Rattle.uma_bucket.specs.Bucket.{items_of}
use Rattle.uma_seat.proofs.RowSteps.{none_of, All-last}
use Rattle.uma_seat.proofs.rack.Rack.take_spare.Goals as goal

pub returns : goal.returns
returns g c = record { spares = grind (arith, common_steps); empty = none_of _ (All-last (λ spare. length (items_of spare) ≡ 0) _ _ c.in-Some.spare c.in-Some.ensures.items c.args.self.now.empty); shelf = search rules }
