use Rattle.std.proofs.Common.{refl}
use Rattle.uma_seat.proofs.Same.{seat_same}
use Rattle.uma_seat.proofs.seat.SeatCache.misses.Goals as goal

pub returns : goal.returns
returns g c = ((refl, λ w. seat_same _ _ refl refl refl refl refl refl refl refl refl), record { writes_back = tt; share = refl })
