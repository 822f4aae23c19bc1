-- Own: what contracts see of a row under its lock, and what becomes of it there.
use Rattle.std.specs.Prelude.{◌≡◌, ◌≤◌, ◌<◌, ◌+◌, ◌%◌, ◌^◌, ℕ, [], ◌∷◌, Option, Some, None, IfSome}
use Rattle.smr_clock.specs.declared.clock.Clock.{Clock}
use Rattle.smr_clock.specs.declared.clock.Setup.{Setup}
use Rattle.smr_clock.specs.declared.view.View.{View}
use Rattle.smr_clock.specs.Belongs.{IsPassOf, TableId, clock_id, setup_of}
use Rattle.uma_life.specs.Ticket.{ticket_no}
use Rattle.uma_bucket.specs.Home.{Home, IsHome}
use Rattle.name_rows.specs.declared.names.Bound.{Bound}
use Rattle.name_rows.specs.declared.names.Record.{Record}
use Rattle.name_rows.specs.declared.entry.EntryState.TheVariants.{Clean, Written, Unlinked, Stamped}
use Rattle.name_rows.specs.declared.root.Guest.{Guest}
use Rattle.name_rows.specs.declared.names.Names.{Names}
use Rattle.name_rows.specs.declared.names.Part.{Part}
use Rattle.name_rows.specs.declared.row.Row.{Row}
use Rattle.name_rows.specs.Belongs.{IsNamesClock}
use Rattle.name_rows.specs.Entries.{OnWords, entry_state, guest_of}
use Rattle.name_rows.specs.Guests.{content_of}
use Rattle.name_rows.specs.Linking.{row_record}
use Rattle.name_rows.specs.Reading.{IsNewest, bound_to}
use Rattle.name_rows.specs.Records.{owned_as}
use Rattle.name_rows.specs.Ripening.{StampsAt, IsUnripe}
use Rattle.name_rows.specs.Roots.{kept_in}
use Rattle.name_rows.specs.Rows.{IsKeyOf, pair_in, row_last}
use Rattle.name_cache.specs.declared.binding.BindRefused.{BindRefused}
use Rattle.name_cache.specs.declared.binding.BindRefused.TheVariants.{Zone, Worn, Unripe as Unripe', Memory}
use Rattle.name_cache.specs.declared.key.RowKey.{RowKey}
use Rattle.name_cache.specs.declared.locked_row.LockedRow.{LockedRow}
use Rattle.name_cache.specs.declared.parts.EntryParts.{EntryParts}
use Rattle.name_cache.specs.declared.binding.Rebound.{Rebound}
use Rattle.name_cache.specs.declared.binding.Rebound.TheVariants.{Done, Refused}
use Rattle.name_cache.specs.declared.binding.Receipt.{Receipt}
use Rattle.name_cache.specs.Making.{IsFreshRow}
use Rattle.name_cache.specs.Known.{known_in, Meets, KnowsBound, KnowsTaken, StillKnows}
use Rattle.name_cache.specs.Parts.{parts_clock, IsSameItem}
use Rattle.name_cache.specs.RowKey.{Identity, key_identity}
use Rattle.name_cache.specs.Types.{NamesPass}

abbrev pub row_identity : LockedRow → Identity
row_identity locked = key_identity locked.key.value

-- the row of names
abbrev pub names_row : LockedRow → Row
names_row locked = locked.row

-- the row is empty, and is the one that the key names, at its version
pub record IsNamedBy (key : RowKey) (row : Row) : Type 0 where
  pub fresh : IsFreshRow key.clock.value key.number row
  pub version : row.version ≡ key.version

-- the row is this, under that key
pub record KeepsUnder (key : RowKey) (own : Row) (locked : LockedRow) : Type 0 where
  pub identity : row_identity locked ≡ key_identity key
  pub row : names_row locked ≡ own

-- the clock is the row's, and one of names
pub record IsRowClock (locked : LockedRow) (clock : Clock Names Part) : Type 0 where
  pub same_clock : clock_id clock ≡ (row_identity locked).clock
  pub names : IsNamesClock clock

-- and the pass is of it
pub record IsRowPass (locked : LockedRow) (clock : Clock Names Part) (pass : NamesPass) : Type 0 where
  pub same_clock : clock_id clock ≡ (row_identity locked).clock
  pub names : IsNamesClock clock
  pub of_clock : IsPassOf clock pass

-- the row, its record and its entry are as they were
pub record IsSameRow (was is : LockedRow) : Type 0 where
  pub last : row_last is.row ≡ row_last was.row
  pub version : is.row.version ≡ was.row.version
  pub guest : is.row.guest ≡ was.row.guest
  pub linked : is.linked ≡ was.linked

-- The pass has met the row: it knows its last record, and knew none of the row that is newer.
pub record MeetsRow (v : View Part) (locked : LockedRow) (v' : View Part) : Type 0 where
  pub last : Record
  pub is_last : row_last locked.row ≡ last ∷ []
  pub version : last.version ≡ locked.row.version
  pub content : last.content ≡ content_of locked.row.guest
  pub meets : Meets v locked.row.number last v'
  pub newest : IsNewest (known_in v') last
  pub still : StillKnows v v'

-- The pass has met the row, which is as it was.
pub record LeavesMet (v : View Part) (old new : LockedRow) (v' : View Part) : Type 0 where
  pub identity : row_identity new ≡ row_identity old
  pub same : IsSameRow old new
  pub meets : MeetsRow v old v'

-- The row with this number, as it stood under its lock when a call got that, and as it was when the call gave the lock back: this was its last record, and it is the same.
pub record StaysAs (row : ℕ) (last : Record) : Type 0 where
  pub was : LockedRow
  pub is : LockedRow
  pub numbered : was.row.number ≡ row
  pub is_last : row_last was.row ≡ last ∷ []
  pub same : IsSameRow was is

-- The entry's words are of this clock, and the item is at home here.
abbrev pub IsItemOf : TableId × Setup → Home → EntryParts → Type 0
IsItemOf clock home parts = (parts_clock parts ≡ clock) × IsHome home parts.ticket

-- These parts are an item of the row's clock, at home there, and the key is of the row.
pub record CanBind (clock : Clock Names Part) (locked : LockedRow) (parts : EntryParts) (key : ℕ) : Type 0 where
  pub item : IsItemOf (row_identity locked).clock (row_identity locked).home parts
  pub of_row : key % (setup_of clock).plan.0 ≡ (names_row locked).number

-- The entry that the row named is out, as it was, and is unlinked. There is none exactly where the row was empty.
abbrev pub IsOut : TableId × Setup → Home → Option Guest → Option EntryParts → Type 0
IsOut clock home None None = Unit {0}
IsOut clock home None (Some parts) = ⊥
IsOut clock home (Some g) None = ⊥
IsOut clock home (Some g) (Some parts) = (guest_of parts.entry ≡ Some g) × (entry_state parts.entry ≡ Some Unlinked) × IsItemOf clock home parts

-- The clock is the row's. The entry can go into the row, under a key of this row: it is written, of the row's clock and at home there. The row has two more versions.
pub record CanLink (clock : Clock Names Part) (locked : LockedRow) (parts : EntryParts) : Type 0 where
  pub here : IsRowClock locked clock
  pub item : IsItemOf (row_identity locked).clock (row_identity locked).home parts
  pub written : entry_state parts.entry ≡ Some Written
  pub of_row : IsKeyOf (setup_of clock).plan.0 locked.row.number (guest_of parts.entry)
  pub low : locked.row.version + 2 < 2 ^ 44

-- The row has the entry, and one record more, which says so. What it had before is out.
pub record LinksInRow (old : LockedRow) (parts : EntryParts) (out : Option EntryParts) (new : LockedRow) : Type 0 where
  pub identity : row_identity new ≡ row_identity old
  pub version : new.row.version ≡ old.row.version + 1
  pub guest : new.row.guest ≡ guest_of parts.entry
  pub last : row_last new.row ≡ row_record old.row.number new.row.version (content_of (guest_of parts.entry)) None ∷ []
  pub evicted : IsOut (row_identity old).clock (row_identity old).home old.row.guest out

-- The row has no entry. Where one is out, the row has one record more, which is empty.
pub record UnlinksInRow (old : LockedRow) (out : Option EntryParts) (new : LockedRow) : Type 0 where
  pub identity : row_identity new ≡ row_identity old
  pub guest : new.row.guest ≡ None
  pub last : IfSome out (λ _. row_last new.row ≡ row_record old.row.number (old.row.version + 1) None (pair_in old.row.guest) ∷ [])
  pub version : IfSome out (λ _. new.row.version ≡ old.row.version + 1)
  pub evicted : IsOut (row_identity old).clock (row_identity old).home old.row.guest out

-- The entry with this number, key and value, if there is one, is out with a stamp.
abbrev pub IsOutStamped : Option Bound → Option EntryParts → Type 0
IsOutStamped None None = Unit {0}
IsOutStamped None (Some parts) = ⊥
IsOutStamped (Some b) None = ⊥
IsOutStamped (Some b) (Some parts) = (goal : ℕ) × (kept_in parts.entry.words ≡ Some (owned_as b (Stamped goal)))

-- The row went on by one record, which the pass knows, and which binds this. What the row bound before is out with a stamp.
pub record BindsInRow (bound : Bound) (v : View Part) (old : LockedRow) (receipt : Receipt) (out : Option EntryParts) (new : LockedRow) (v' : View Part) : Type 0 where
  pub before : Record
  pub was_last : row_last old.row ≡ before ∷ []
  pub met : Meets v receipt.row before v'
  pub row : receipt.row ≡ old.row.number
  pub next : receipt.version ≡ before.version + 1
  pub low : before.version + 2 < 2 ^ 44
  pub knows : KnowsBound bound receipt (known_in v')
  pub is_last : row_last new.row ≡ knows.at ∷ []
  pub out_before : IsOutStamped before.content out

-- Why the row takes no entry: the entry isn't ripe, which the row doesn't matter for; or it is, and the row is worn.
abbrev pub RefusesEntry : LockedRow → EntryParts → EntryParts → BindRefused → Type 0
RefusesEntry row parts back (Unripe' read stamp) = OnWords (IsUnripe (record { read = read; stamp = stamp })) parts.entry.words back.entry.words
RefusesEntry row parts back (Worn number version) = (entry_state back.entry ≡ Some Clean) × (number ≡ row.row.number) × (version ≡ row.row.version) × (2 ^ 44 ≤ version + 2)
RefusesEntry row parts back (Zone refusal) = ⊥
RefusesEntry row parts back Memory = ⊥

-- The row takes no entry, and is as it was; the pass has met it. The entry is back.
pub record RefusesInRow (v : View Part) (old : LockedRow) (parts back : EntryParts) (refused : BindRefused) (new : LockedRow) (v' : View Part) : Type 0 where
  pub why : RefusesEntry old parts back refused
  pub item : IsSameItem parts back
  pub same : IsSameRow old new
  pub met : MeetsRow v old v'

-- The row bound the key to this value, and went on by one record, which the pass knows, and which is empty. Its entry is out with a stamp.
pub record UnbindsInRow (key value : ℕ) (v : View Part) (old : LockedRow) (receipt : Receipt) (out : EntryParts) (new : LockedRow) (v' : View Part) : Type 0 where
  pub before : Record
  pub was_last : row_last old.row ≡ before ∷ []
  pub met : Meets v receipt.row before v'
  pub row : receipt.row ≡ old.row.number
  pub next : receipt.version ≡ before.version + 1
  pub bound : Bound
  pub content : before.content ≡ Some bound
  pub key_bound : bound.key ≡ key
  pub value_bound : bound.value ≡ value
  pub knows : KnowsTaken key value receipt (known_in v')
  pub is_last : row_last new.row ≡ knows.at ∷ []
  pub goal : ℕ
  pub stamped : kept_in out.entry.words ≡ Some (owned_as bound (Stamped goal))

-- So it did, and that entry is of the row's clock, and at home there.
pub record GivesOut (key value : ℕ) (v : View Part) (old : LockedRow) (receipt : Receipt) (out : EntryParts) (new : LockedRow) (v' : View Part) : Type 0 where
  pub unbound : UnbindsInRow key value v old receipt out new v'
  pub item : IsItemOf (row_identity old).clock (row_identity old).home out

-- The row doesn't bind the key, and is as it was; the pass has met it.
pub record HasNotKey (key : ℕ) (v : View Part) (old new : LockedRow) (v' : View Part) : Type 0 where
  pub unbound : bound_to key (content_of old.row.guest) ≡ None
  pub same : IsSameRow old new
  pub met : MeetsRow v old v'

-- The entry that was out without a stamp, if there was one, has one now.
abbrev pub IsStamped : Option EntryParts → Option EntryParts → Type 0
IsStamped None None = Unit {0}
IsStamped None (Some is) = ⊥
IsStamped (Some was) None = ⊥
IsStamped (Some was) (Some is) = OnWords StampsAt was.entry.words is.entry.words × IsSameItem was is

-- How a bind leaves its row: it binds the key to the value by the entry of these parts, or is as it was.
abbrev pub RebindsRow : ℕ → ℕ → View Part → LockedRow → EntryParts → Rebound → LockedRow → View Part → Type 0
RebindsRow key value v old parts (Done receipt evicted) new v' = BindsInRow (record { entry = ticket_no parts.ticket; key = key; value = value }) v old receipt evicted new v'
RebindsRow key value v old parts (Refused entry refused) new v' = RefusesInRow v old parts entry refused new v'

-- The entry that a bind leaves out of the row, if there is one, is of this clock, and at home here.
abbrev pub HasItemOf : TableId × Setup → Home → Rebound → Type 0
HasItemOf clock home (Done receipt None) = Unit {0}
HasItemOf clock home (Done receipt (Some parts)) = IsItemOf clock home parts
HasItemOf clock home (Refused entry refused) = IsItemOf clock home entry
