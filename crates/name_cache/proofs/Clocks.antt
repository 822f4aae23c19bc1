-- What is of one handle of a clock is of each other.
use Rattle.std.proofs.Common.{◌≡◌, Option, Some, None, ◌∙◌, ap, subst}
use Rattle.std.proofs.lemmas.Option.{none-some, same_Some}
use Rattle.smr_clock.specs.declared.clock.Clock.{Clock}
use Rattle.smr_clock.specs.declared.clock.Setup.{Setup}
use Rattle.smr_clock.specs.Belongs.{TableId, clock_id, table_of, setup_of}
use Rattle.smr_clock.specs.Notes.{IsSeatOf}
use Rattle.name_rows.specs.declared.names.Names.{Names}
use Rattle.name_rows.specs.declared.names.Part.{Part}
use Rattle.name_rows.specs.declared.root.Root.{Root}
use Rattle.name_rows.specs.declared.row.Row.{Row}
use Rattle.name_rows.specs.declared.words.Words.{Words}
use Rattle.name_rows.specs.Entries.{AreWordsOf}
use Rattle.name_rows.specs.Roots.{IsRootOf}
use Rattle.name_rows.specs.Rows.{IsRowOf}

module _ (one other : Clock Names Part) (same : clock_id one ≡ clock_id other) where
  same_table : table_of one ≡ table_of other
  same_table = ap (λ (id : TableId × Setup). id.0) same

  pub same_setup : setup_of one ≡ setup_of other
  same_setup = ap (λ (id : TableId × Setup). id.1) same

  pub row_too : (row : Row) → IsRowOf one row → IsRowOf other row
  row_too row is = (is.0 ∙ same_table, is.1 ∙ same_setup)

  pub root_too : (root : Root) → IsRootOf one root → IsRootOf other root
  root_too root is = (is.0 ∙ same_table, is.1 ∙ same_setup)

  seat_too : (w : Words) → IsSeatOf one w.seat → IsSeatOf other w.seat
  seat_too w is = (is.0 ∙ same_table, is.1 ∙ same_setup)

  pub ours_too : (words : Option Words) → AreWordsOf one words → (w : Words) → words ≡ Some w → IsSeatOf other w.seat
  ours_too None here w is = absurd (none-some w is)
  ours_too (Some x) here w is = seat_too w (subst (λ (y : Words). IsSeatOf one y.seat) (same_Some x w is) here)
