-- Own: what contracts see of a deed.
use Rattle.std.specs.Prelude.{ℕ}
use Rattle.deed_book.specs.declared.deed.Deed.{Deed}
use Rattle.deed_book.specs.Origin.{origin_numbers}
pub use Rattle.deed_book.specs.BookId.{BookId, TableId}

-- which book it is of
abbrev pub deed_table : Deed → BookId
deed_table deed = record { table = deed.seat.table_id; origin = origin_numbers deed.origin }

abbrev pub no_of : Deed → ℕ
no_of deed = deed.no

abbrev pub zone_of : Deed → ℕ
zone_of deed = deed.zone

-- what its holder labelled it with
abbrev pub label_of : Deed → ℕ
label_of deed = deed.label

-- the same deed with another label
abbrev pub labelled : Deed → ℕ → Deed
labelled deed label = record deed { label = label }
