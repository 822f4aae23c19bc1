use Rattle.std.proofs.Common.{◌≡◌, false, None, replicate}
use Rattle.uma_slabs.proofs.rooms.empty_rooms.Given as goal

abbrev pub invariant-loop : goal.invariant-loop
invariant-loop l = l.rooms.items ≡ replicate l.counter (record { domain = None; free = replicate l.places false })
