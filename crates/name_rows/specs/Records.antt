-- What a row's word says over time, and what seats know of it. That readers go through a row's word to an entry's words without a lock is the use of FreeBSD's smr(9) in its name cache; rows, versions and records are own.
use Rattle.std.specs.Prelude.{◌≡◌, ℕ, zero, suc, ◌+◌, ◌*◌, ◌/◌, ◌^◌, ◌⊎◌, List, [], ◌∷◌, ◌++◌, slice_index, Bool, true, false, Option, Some, None}
use mathlib.Core.Option.{some}
use lib.ListN.{get_elem?}
use Rattle.smr_core.specs.ClockState.{place_after_seats}
use Rattle.smr_clock.specs.declared.clock.Setup.{Setup}
use Rattle.name_rows.specs.declared.names.Bound.{Bound}
use Rattle.name_rows.specs.declared.names.Record.{Record}
use Rattle.name_rows.specs.declared.names.RowView.{RowView}
use Rattle.name_rows.specs.declared.names.Hold.{Hold}
use Rattle.name_rows.specs.declared.entry.EntryState.{EntryState}
use Rattle.name_rows.specs.declared.entry.EntryState.TheVariants.{Clean}
use Rattle.name_rows.specs.declared.entry.Owned.{Owned}
use Rattle.name_rows.specs.declared.names.Part.{Part}

-- the element is in the list
abbrev pub In : {A : Type 0} → A → List A → Type 0
In a [] = ⊥
In a (x ∷ xs) = (x ≡ a) ⊎ In a xs

-- ---- the words of the names, behind the clock's: one a row, and then two an entry

abbrev pub row_place : Setup → ℕ → ℕ
row_place a row = place_after_seats a.config + row

abbrev pub key_place : Setup → ℕ → ℕ
key_place a entry = place_after_seats a.config + (a.plan.0 + 2 * entry)

abbrev pub value_place : Setup → ℕ → ℕ
value_place a entry = place_after_seats a.config + (a.plan.0 + 2 * entry + 1)

-- what stands in the word of the row
abbrev pub row_word : Setup → List ℕ → RowView → ℕ
row_word a ws v = slice_index ws (row_place a v.number)

-- ---- records

-- the lower 20 bits of a row's word: 0, or the entry plus 1
abbrev pub slot_of : Option Bound → ℕ
slot_of None = 0
slot_of (Some b) = b.entry + 1

-- a row's word: the version in the upper 44 bits
abbrev pub spelled : Record → ℕ
spelled r = r.version * 2 ^ 20 + slot_of r.content

-- the record with which a row begins, as its word spells it
abbrev pub opening : ℕ → ℕ → Record
opening row word = record { row = row; version = word / 2 ^ 20; content = None; took = None }

-- the records of a row, newest first
abbrev pub records_in : ℕ → ℕ → List Record → List Record
records_in row word [] = opening row word ∷ []
records_in row word (r ∷ rs) = r ∷ rs

abbrev pub records_of : ℕ → RowView → List Record
records_of word v = records_in v.number word v.records

abbrev pub last_in : ℕ → ℕ → List Record → Record
last_in row word [] = opening row word
last_in row word (r ∷ rs) = r

abbrev pub last_record : ℕ → RowView → Record
last_record word v = last_in v.number word v.records

-- the key and the value of a content
abbrev pub pair_of : Option Bound → Option (ℕ × ℕ)
pair_of None = None
pair_of (Some b) = Some (b.key, b.value)

-- what a record took out: an unbinding the key and the value of the record before it
abbrev pub taken_out : Option Bound → Option Bound → Option (ℕ × ℕ)
taken_out None before = pair_of before
taken_out (Some b) before = None

-- the record comes directly after the other
pub record Follows (r s : Record) : Type 0 where
  pub version : r.version ≡ s.version + 1
  pub took : r.took ≡ taken_out r.content s.content

abbrev pub FollowsFirst : Record → List Record → Type 0
FollowsFirst r [] = Unit {0}
FollowsFirst r (s ∷ rest) = Follows r s

-- each record comes directly after the one behind it
abbrev pub Chained : List Record → Type 0
Chained [] = Unit {0}
Chained (r ∷ rest) = FollowsFirst r rest × Chained rest

-- ---- entries

-- what the owner of the entry of a content knows, in this state
abbrev pub owned_as : Bound → EntryState → Owned
owned_as b s = record { entry = b.entry; key = b.key; value = b.value; state = s }

-- ---- parts of seats

-- the seat has a part of which this is so
abbrev pub Has : List Part → ℕ → (Part → Type 0) → Type 0
Has ps at F = (p : Part) × (get_elem? ps at ≡ some p) × F p

abbrev pub IsRow : RowView → Part → Type 0
IsRow v p = In v p.rows

abbrev pub OwnsIt : Owned → Part → Type 0
OwnsIt o p = In o p.owned

abbrev pub HoldsIt : Hold → Part → Type 0
HoldsIt h p = p.hold ≡ Some h

abbrev pub KnowsIt : Record → Part → Type 0
KnowsIt r p = In r p.known

-- the part of a seat that was joined into another
abbrev pub blank_part : Part
blank_part = record { rows = []; owned = []; known = []; hold = None; next = None }

-- what a note has: all that is known, and nothing else
abbrev pub told : Part → Part
told p = record { rows = []; owned = []; known = p.known; hold = None; next = None }

-- a seat that takes in a note knows what both knew
abbrev pub learned : Part → Part → Part
learned p note = record p { known = p.known ++ note.known }

abbrev pub owns_nothing : List RowView → List Owned → Bool
owns_nothing [] [] = true
owns_nothing [] (o ∷ os) = false
owns_nothing (v ∷ vs) os = false

-- a note owns neither a row nor an entry
abbrev pub may_note : Part → Bool
may_note p = owns_nothing p.rows p.owned

-- ---- the opening

-- a row that has no record yet
abbrev pub fresh_row : ℕ → RowView
fresh_row n = record { number = n; records = [] }

-- so many rows, from a number on
unfoldable pub rows_from : ℕ → ℕ → List RowView
rows_from first zero = []
rows_from first (suc count) = fresh_row first ∷ rows_from (first + 1) count

-- a clean entry with zeros in its words
abbrev pub fresh_entry : ℕ → Owned
fresh_entry n = record { entry = n; key = 0; value = 0; state = Clean }

unfoldable pub entries_below : ℕ → List Owned
entries_below zero = []
entries_below (suc n) = fresh_entry n ∷ entries_below n

-- the first seat, the root, has all rows and all entries
abbrev pub first_part : Setup → Part
first_part a = record { rows = rows_from 0 a.plan.0; owned = entries_below a.plan.1; known = []; hold = None; next = None }
