-- What the law of names means for a reader: while its hold may still be read, the entry's words are the record's, and nobody may write them.
use Rattle.std.specs.Prelude.{◌≡◌, ℕ, ◌≤◌, List, slice_index, Some}
use Rattle.smr_core.specs.ClockState.{read_hand}
use Rattle.smr_clock.specs.declared.clock.Setup.{Setup}
use Rattle.name_rows.specs.declared.names.Bound.{Bound}
use Rattle.name_rows.specs.declared.names.Hold.{Hold}
use Rattle.name_rows.specs.declared.entry.EntryState.TheVariants.{Clean}
use Rattle.name_rows.specs.declared.entry.Owned.{Owned}
use Rattle.name_rows.specs.declared.names.Part.{Part}
use Rattle.name_rows.specs.Records.{key_place, value_place, Has, OwnsIt, HoldsIt}
use Rattle.name_rows.specs.NamesLaw.{Held}

-- In every state that meets the law, a seat holds a record of an entry, and the read sequence is at most the hold's mark, as it is while the section is open: both words are the record's, and the entry isn't clean.
pub record Stands (a : Setup) (ws : List ℕ) (ps : List Part) (b : Bound) : Type 0 where
  pub key : slice_index ws (key_place a b.entry) ≡ b.key
  pub value : slice_index ws (value_place a b.entry) ≡ b.value
  pub unclean : (at : ℕ) (o : Owned) → Has ps at (OwnsIt o) → o.entry ≡ b.entry → o.state ≡ Clean → ⊥

abbrev pub HeldWordsStand : Type 0
HeldWordsStand =
    (a : Setup) (ws : List ℕ) (ps : List Part) (at : ℕ) (h : Hold) (b : Bound)
    → Held a ws ps → Has ps at (HoldsIt h) → h.loaded.content ≡ Some b → read_hand ws ≤ h.mark → Stands a ws ps b
