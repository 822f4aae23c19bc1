use Rattle.std.proofs.Common.{◌≡◌, length, ap, arith}
use Rattle.uma_seat.specs.Seat.{shelf_of}
use Rattle.uma_zone.proofs.domains.flush.add_spares.Goals as goal

pub add_spare-requires : goal.add_spare-requires
add_spare-requires g c =
    let none : length (shelf_of c.loop.seat) ≡ 0 = ap length c.loop.invariant.shelf in
    omega (arith, none, c.loop.invariant.count, c.loop-test.true)
