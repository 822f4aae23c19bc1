-- An item of another domain was taken.
use Rattle.std.proofs.Common.{◌<◌, ℕ, Option, Some, None, IfSome, sym, subst}
use Rattle.std.proofs.lemmas.List.{length-map}
use Rattle.std.specs.Prelude.{◌≢◌}
use Rattle.uma_life.specs.declared.states.Cached.{Cached}
use Rattle.uma_seat.specs.declared.seat.SeatCache.{SeatCache}
use Rattle.uma_seat.specs.Row.{row_len, TakesAt}
use Rattle.uma_seat.specs.Seat.{plain_of, seat_domain, TakesCross}
use Rattle.uma_seat.specs.Stack.{stack_of}

pub cross_of : {T H P : Type 0} {g h : _} (old new : SeatCache T H P g h) (domain : ℕ) → domain < row_len old.plain → domain ≢ seat_domain old → (taken : Option (Cached T g)) → IfSome taken (λ item. TakesAt (plain_of old) domain item (plain_of new)) → IfSome taken (λ item. TakesCross old item new)
cross_of old new domain within other None takes = tt
cross_of old new domain within other (Some item) takes =
    record { domain = domain; within = subst (λ (n : ℕ). domain < n) (sym (length-map old.plain.buckets.items stack_of)) within; other = other; takes = takes }
