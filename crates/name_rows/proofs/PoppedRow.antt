-- The one row of a clock of names, taken out of its list.
use Rattle.std.proofs.Common.{◌≡◌, ℕ, ◌+◌, List, [], ◌∷◌, ◌++◌, length, ap, ◌∙◌, refl, arith}
use Rattle.smr_clock.specs.declared.clock.Clock.{Clock}
use Rattle.smr_clock.proofs.MakingLemmas.{last_there}
use Rattle.name_rows.specs.declared.names.Names.{Names}
use Rattle.name_rows.specs.declared.names.Part.{Part}
use Rattle.name_rows.specs.declared.row.Row.{Row}
use Rattle.name_rows.specs.Opening.{AreOpenRows}
use Rattle.name_rows.specs.Rows.{IsRowOf}

longer : (rest : List Row) (row : Row) → length (rest ++ row ∷ []) ≡ length rest + 1
longer [] row = refl
longer (x ∷ xs) row = let t = longer xs row in omega arith

pub only_row : (clock : Clock Names Part) (version : ℕ) (rows rest : List Row) (row : Row) → rows ≡ rest ++ row ∷ [] → length rows ≡ 1 → AreOpenRows clock version rows
    → IsRowOf clock row × (row.number ≡ 0) × (row.version ≡ version)
only_row clock version rows rest row e one are =
    let many = longer rest row in
    let all = ap (λ (l : List Row). length l) e in
    let none : length rest ≡ 0 = omega arith in
    let t = are (length rest) row (last_there rows rest row e) in
    (t.0, t.1 ∙ none, t.2)
