use Rattle.std.proofs.Common.{◌≡◌, ◌≤◌, [], length}
use Rattle.uma_seat.specs.Seat.{spares_of, shelf_of, KeepsPorts}
use Rattle.uma_zone.specs.Frames.{KeepsItems}
use Rattle.uma_zone.proofs.domains.flush.add_spares.Given as goal

abbrev pub invariant-loop : goal.invariant-loop
invariant-loop g l = record {
  count : length (spares_of l.seat) ≡ l.counter;
  more : length (spares_of l.fn.seat) ≤ length (spares_of l.seat);
  shelf : shelf_of l.seat ≡ [];
  kept : KeepsItems l.fn.seat l.seat;
  ports : KeepsPorts l.fn.seat l.seat;
}
