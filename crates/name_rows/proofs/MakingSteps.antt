-- The rows of a making, one by one.
use Rattle.std.proofs.Common.{◌≡◌, ℕ, ◌+◌, List, [], ◌∷◌, ◌++◌, length, sym, ap, subst, ◌∙◌, ⊎_elim, None, arith}
use Rattle.std.proofs.lemmas.List.{length-append}
use Rattle.smr_core.proofs.PlaceLemmas.{at_push}
use Rattle.smr_clock.specs.declared.clock.Clock.{Clock}
use Rattle.name_rows.specs.declared.names.Names.{Names}
use Rattle.name_rows.specs.declared.names.Part.{Part}
use Rattle.name_rows.specs.declared.row.Row.{Row}
use Rattle.name_rows.specs.Opening.{AreOpenRows}
use Rattle.name_rows.specs.Linking.{row_record}
use Rattle.name_rows.specs.Rows.{IsRowOf, row_last}

pub one_row_more : (clock : Clock Names Part) (version count : ℕ) (rows rows' : List Row) (row : Row) → AreOpenRows clock version rows → rows' ≡ rows ++ row ∷ [] → length rows ≡ count
    → IsRowOf clock row → row.number ≡ count → row.version ≡ version → row.guest ≡ None → row_last row ≡ row_record count version None None ∷ [] → AreOpenRows clock version rows'
one_row_more clock version count rows rows' row before is long here number same none told =
    subst (λ (l : List Row). AreOpenRows clock version l) (sym is)
    (λ n r there.
    ⊎_elim
    (λ t. before n r t)
    (λ t. subst (λ (y : Row). IsRowOf clock y × (y.number ≡ n) × (y.version ≡ version) × (y.guest ≡ None) × (row_last y ≡ row_record n version None None ∷ [])) t.1 (here, number ∙ sym long ∙ sym t.0, same, none, told ∙ ap (λ (k : ℕ). row_record k version None None ∷ []) (sym long ∙ sym t.0)))
    (at_push rows row r n there))

pub one_longer : (rows rows' : List Row) (row : Row) (count : ℕ) → rows' ≡ rows ++ row ∷ [] → length rows ≡ count → length rows' ≡ count + 1
one_longer rows rows' row count is long =
    let all : length (rows ++ row ∷ []) ≡ length rows + 1 = length-append rows (row ∷ []) in
    let same : length rows' ≡ length (rows ++ row ∷ []) = ap length is in
    omega arith
