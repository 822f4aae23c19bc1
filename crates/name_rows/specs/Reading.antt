-- What a reader's loads change and tell: of a row's word, and then of the words of the entry that it names.
use Rattle.std.specs.Prelude.{◌≡◌, ℕ, ◌-◌, ◌%◌, ◌^◌, ◌<◌, ◌≤◌, List, ◌∷◌, Option, Some, None, ◌==◌, cond}
use Rattle.smr_core.specs.declared.holder.Phase.TheVariants as phase
use Rattle.smr_clock.specs.declared.clock.Setup.{Setup}
use Rattle.smr_clock.specs.declared.view.View.{View}
use Rattle.smr_clock.specs.HostSteps.{Change, with_host}
use Rattle.name_rows.specs.declared.names.Bound.{Bound}
use Rattle.name_rows.specs.declared.names.Record.{Record}
use Rattle.name_rows.specs.declared.names.Hold.{Hold}
use Rattle.name_rows.specs.declared.names.Part.{Part}
use Rattle.name_rows.specs.Records.{In, row_place, key_place, value_place, spelled}

-- the part of a pass that loaded this record in its section
abbrev pub holding : View Part → Record → Part
holding v last = record v.host { known = last ∷ v.host.known; hold = Some (record { loaded = last; mark = v.holder.mark }) }

-- the content names an entry of the plan, with a key of the row
abbrev pub IsOfRow : Setup → ℕ → Bound → Type 0
IsOfRow a row b = (b.entry < a.plan.1) × (b.key % a.plan.0 ≡ row)

-- no known record of the record's row is newer
abbrev pub IsNewest : List Record → Record → Type 0
IsNewest known last = (r : Record) → In r known → r.row ≡ last.row → r.version ≤ last.version

-- The word of the row spells a record, which is not older than any that the seat knows of the row.
pub record Spells (a : Setup) (row found : ℕ) (known : List Record) (last : Record) : Type 0 where
  pub of_row : last.row ≡ row
  pub word : found ≡ spelled last
  pub low : last.version < 2 ^ 44
  pub bound : (b : Bound) → last.content ≡ Some b → IsOfRow a row b
  pub newest : IsNewest known last

-- a load of a row's word inside a section
abbrev pub reads_row : Change Part
reads_row v word act found part =
    (row : ℕ) × (last : Record) × (word ≡ row_place v.setup row) × Spells v.setup row found v.host.known last × (part ≡ holding v last)

-- A load of an entry's word, inside the section in which its record was loaded: what stands there is the record's.
abbrev pub reads_entry : Change Part
reads_entry v word act found part =
    (part ≡ v.host)
    × ((h : Hold) (b : Bound) → v.host.hold ≡ Some h → h.loaded.content ≡ Some b → v.holder.phase ≡ phase.Inside → h.mark ≡ v.holder.mark
    → (word ≡ key_place v.setup b.entry → found ≡ b.key) × (word ≡ value_place v.setup b.entry → found ≡ b.value))

-- the pass is in the section in which it loaded a record with this content
pub record HoldsOpen (v : View Part) (b : Bound) : Type 0 where
  pub hold : Hold
  pub holds : v.host.hold ≡ Some hold
  pub content : hold.loaded.content ≡ Some b
  pub inside : v.holder.phase ≡ phase.Inside
  pub mark : hold.mark ≡ v.holder.mark

-- the entry that a slot names: 0, or the entry plus 1
abbrev pub slot_entry : ℕ → Option ℕ
slot_entry slot = cond (slot == 0) None (Some (slot - 1))

abbrev pub entry_in : Option Bound → Option ℕ
entry_in None = None
entry_in (Some b) = Some b.entry

-- a load of the row's word, and the entry that it names
pub record ReadsRecord (v : View Part) (row : ℕ) (entry : Option ℕ) (v' : View Part) : Type 0 where
  pub last : Record
  pub of_row : last.row ≡ row
  pub newest : IsNewest v.host.known last
  pub bound : (b : Bound) → last.content ≡ Some b → IsOfRow v.setup row b
  pub names : entry ≡ entry_in last.content
  pub after : v' ≡ with_host v (holding v last)

-- the value that the content binds to the key
abbrev pub bound_to : ℕ → Option Bound → Option ℕ
bound_to key None = None
bound_to key (Some b) = cond (b.key == key) (Some b.value) None

-- A look for a key: it loads the last record of the key's row, which the pass knows from then on, and answers by it.
pub record Finds (v v' : View Part) (key : ℕ) (found : Option ℕ) : Type 0 where
  pub last : Record
  pub of_row : last.row ≡ key % v.setup.plan.0
  pub newest : IsNewest v.host.known last
  pub result : found ≡ bound_to key last.content
  pub after : v' ≡ with_host v (holding v last)
