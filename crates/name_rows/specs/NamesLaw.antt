-- The law of names, over the words and the parts of the seats. It holds between any two steps.
-- Its parts:
--   1. The clock's law holds.
--   2. A row's word spells its last record.
--   3. Each row, and each entry, has one owner, which knows the entry's words. A linked entry is with its row, its words are those of the record, and its key is of that row.
--   4. A pass that holds a record of an entry, loaded in a section of this entry mark: while the read sequence is at most the mark, the entry's words are the record's, and it is linked by it, or unlinked without a stamp, or stamped with a goal above the mark.
--   5. No clean entry is with a row. The root alone has both, before it has split its rows off.
--   6. Each record that a seat knows is one of its row's. The records of a row follow one another, and what an unbinding took out is what the record before it had.
use Rattle.std.specs.Prelude.{◌≡◌, ℕ, ◌%◌, ◌^◌, ◌<◌, ◌≤◌, List, [], length, slice_index, Some}
use Rattle.smr_core.specs.ClockState.{write_hand, read_hand}
use Rattle.smr_clock.specs.declared.clock.Setup.{Setup}
use Rattle.smr_clock.specs.declared.view.View.{View}
use Rattle.smr_clock.specs.Views.{hosts_of}
use Rattle.smr_clock.specs.Clocked.{Clocked}
use Rattle.name_rows.specs.declared.names.Bound.{Bound}
use Rattle.name_rows.specs.declared.names.Record.{Record}
use Rattle.name_rows.specs.declared.names.RowView.{RowView}
use Rattle.name_rows.specs.declared.names.Hold.{Hold}
use Rattle.name_rows.specs.declared.entry.EntryState.{EntryState}
use Rattle.name_rows.specs.declared.entry.EntryState.TheVariants.{Clean, Written, Linked, Unlinked, Stamped}
use Rattle.name_rows.specs.declared.entry.Owned.{Owned}
use Rattle.name_rows.specs.declared.names.Part.{Part}
use Rattle.name_rows.specs.Records.{In, key_place, value_place, row_word, spelled, records_of, last_record, Chained, owned_as, Has, IsRow, OwnsIt, HoldsIt, KnowsIt}

-- the counts of rows and of entries are in range
pub record IsPlan (rows entries : ℕ) : Type 0 where
  pub some_row : 1 ≤ rows
  pub few_rows : rows ≤ 4096
  pub few_entries : entries ≤ 65536

-- Of a row that the seat owns, in whose word this stands: part 2, and the rows' half of 3, 5 and 6.
pub record RowFitsAt (a : Setup) (found : ℕ) (ps : List Part) (at : ℕ) (v : RowView) : Type 0 where
  pub number : v.number < a.plan.0
  pub word : found ≡ spelled (last_record found v)
  pub low : (last_record found v).version < 2 ^ 44
  pub chained : Chained v.records
  pub listed : (r : Record) → In r (records_of found v) → (r.row ≡ v.number) × (r.version ≤ (last_record found v).version)
  pub linked : (b : Bound) → (last_record found v).content ≡ Some b
      → (b.key % a.plan.0 ≡ v.number) × Has ps at (OwnsIt (owned_as b (Linked (last_record found v).row (last_record found v).version)))
  pub busy : (o : Owned) → Has ps at (OwnsIt o) → o.state ≡ Clean → v.records ≡ []

-- the entry is one of the plan, and its owner knows its words
pub record OwnedFits (a : Setup) (ws : List ℕ) (o : Owned) : Type 0 where
  pub number : o.entry < a.plan.1
  pub key : slice_index ws (key_place a o.entry) ≡ o.key
  pub value : slice_index ws (value_place a o.entry) ≡ o.value

-- an entry in this state may still be read by who holds a record of it
abbrev pub StillHeld : Hold → EntryState → Type 0
StillHeld h Clean = ⊥
StillHeld h Written = ⊥
StillHeld h (Linked row version) = (row ≡ h.loaded.row) × (version ≡ h.loaded.version)
StillHeld h Unlinked = Unit {0}
StillHeld h (Stamped goal) = h.mark < goal

-- part 4: some seat has the entry, with the record's key and value, in a state in which it may still be read
abbrev pub IsStillThere : List Part → Hold → Bound → Type 0
IsStillThere ps h b = (at : ℕ) × (s : EntryState) × Has ps at (OwnsIt (owned_as b s)) × StillHeld h s

pub record HoldFits (ws : List ℕ) (ps : List Part) (h : Hold) : Type 0 where
  pub past : h.mark ≤ write_hand ws
  pub kept : (b : Bound) → h.loaded.content ≡ Some b → read_hand ws ≤ h.mark → IsStillThere ps h b

-- some seat has the record's row, and it is one of the row's records
pub record IsRecord (a : Setup) (ws : List ℕ) (ps : List Part) (r : Record) : Type 0 where
  pub at : ℕ
  pub row : RowView
  pub there : Has ps at (IsRow row)
  pub listed : In r (records_of (row_word a ws row) row)

-- the law beside the clock's part
pub record Held (a : Setup) (ws : List ℕ) (ps : List Part) : Type 0 where
  pub planned : IsPlan a.plan.0 a.plan.1
  pub room : key_place a a.plan.1 ≤ length ws
  pub rows : (at : ℕ) (v : RowView) → Has ps at (IsRow v) → RowFitsAt a (row_word a ws v) ps at v
  pub one_row : (at other : ℕ) (v w : RowView) → Has ps at (IsRow v) → Has ps other (IsRow w) → v.number ≡ w.number → (at ≡ other) × (v ≡ w)
  pub all_rows : (n : ℕ) → n < a.plan.0 → (at : ℕ) × (v : RowView) × Has ps at (IsRow v) × (v.number ≡ n)
  pub owners : (at : ℕ) (o : Owned) → Has ps at (OwnsIt o) → OwnedFits a ws o
  pub one_owner : (at other : ℕ) (o x : Owned) → Has ps at (OwnsIt o) → Has ps other (OwnsIt x) → o.entry ≡ x.entry → (at ≡ other) × (o ≡ x)
  pub all_owned : (n : ℕ) → n < a.plan.1 → (at : ℕ) × (o : Owned) × Has ps at (OwnsIt o) × (o.entry ≡ n)
  pub holds : (at : ℕ) (h : Hold) → Has ps at (HoldsIt h) → HoldFits ws ps h
  pub knows : (at : ℕ) (r : Record) → Has ps at (KnowsIt r) → IsRecord a ws ps r

pub record Named (a : Setup) (ws : List ℕ) (vs : List (View Part)) : Type 0 where
  pub clock : Clocked a ws vs
  pub names : Held a ws (hosts_of vs)
