-- The entry that a row names, as contracts see it.
use Rattle.std.specs.Prelude.{ℕ, ◌+◌, Option, Some, None}
use Rattle.name_rows.specs.declared.names.Bound.{Bound}
use Rattle.name_rows.specs.declared.root.Guest.{Guest}

abbrev pub bound_of : Guest → Bound
bound_of g = record { entry = g.no; key = g.key; value = g.value }

abbrev pub content_of : Option Guest → Option Bound
content_of None = None
content_of (Some g) = Some (bound_of g)

-- the number after the entry's
abbrev pub next_no : Option Guest → ℕ
next_no None = 0
next_no (Some g) = g.no + 1
