-- The word that a field is, by a table of words (own).
use Rattle.std.specs.Prelude.{ℕ, List, [], ◌∷◌, if◌then◌else◌, Option, Some, None}
use Rattle.std.specs.Str.{bytes_eq}

abbrev pub named_in : {W : Type 0} → List (List ℕ × W) → List ℕ → Option W
named_in [] field = None
named_in (row ∷ rows) field = if bytes_eq field row.0 then Some row.1 else named_in rows field
