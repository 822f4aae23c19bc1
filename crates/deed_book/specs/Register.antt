-- Own: what contracts see of a register.
use Rattle.std.specs.Prelude.{ℕ, List, Option}
use Rattle.deed_book.specs.declared.book.Register.{Register}
use Rattle.deed_book.specs.Origin.{origin_numbers}
use Rattle.deed_book.specs.BookId.{BookId}

abbrev pub register_table : Register → BookId
register_table register = record { table = register.seat.table_id; origin = origin_numbers register.origin }

-- for each number the zone of its deed, or None where the number is at home
abbrev pub register_zones : Register → List (Option ℕ)
register_zones register = register.seat.me.0.zones
