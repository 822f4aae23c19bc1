-- Own: what a seat is emptied of.
use Rattle.std.specs.Prelude.{ℕ, ◌+◌, length, sum_by}
use Rattle.uma_seat.specs.declared.seat.SeatCache.{SeatCache}
use Rattle.uma_seat.specs.Seat.{top_of, plain_of}

-- How many usable and cross items a seat has. They are those of its allocation bucket, and in a plain zone those of the buckets of the domains: that of its own has usable items, each other cross items.
abbrev pub cached_in : {T H P : Type 0} {g h : _} → SeatCache T H P g h → ℕ
cached_in seat = length (top_of seat).items + sum_by (λ stack. length stack.items) (plain_of seat)
