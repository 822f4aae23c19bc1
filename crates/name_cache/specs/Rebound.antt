-- Own: what the steps of a bind and of an unbind come to.
use Rattle.std.specs.Prelude.{◌≡◌, ◌%◌, ◌<◌, ℕ, [], false, Option, Some, None}
use Rattle.smr_clock.specs.declared.clock.Clock.{Clock}
use Rattle.smr_clock.specs.declared.view.View.{View}
use Rattle.smr_clock.specs.Belongs.{view}
use Rattle.zone_stats.specs.LedgerSteps.{CountsAlloc}
use Rattle.uma_life.specs.Live.{live_body, live_ticket}
use Rattle.uma_seat.specs.Seat.{ledger_of, shelf_of}
use Rattle.uma_zone.specs.Alloc.{Serves, TurnsAway, WantsMemory}
use Rattle.uma_zone.specs.Frames.{GoesOn}
use Rattle.uma_zone.specs.Ports.{sent_of}
use Rattle.name_rows.specs.declared.names.Names.{Names}
use Rattle.name_rows.specs.declared.names.Part.{Part}
use Rattle.name_cache.specs.Raised.{raised_entry}
use Rattle.name_cache.specs.declared.binding.BindRefused.{BindRefused}
use Rattle.name_cache.specs.declared.binding.BindRefused.TheVariants.{Zone, Worn, Unripe, Memory}
use Rattle.name_cache.specs.declared.cache.NameCache.{NameCache}
use Rattle.name_cache.specs.declared.locked_row.LockedRow.{LockedRow}
use Rattle.name_cache.specs.declared.parts.EntryParts.{EntryParts}
use Rattle.name_cache.specs.declared.binding.Rebound.{Rebound}
use Rattle.name_cache.specs.declared.binding.Rebound.TheVariants.{Done, Refused}
use Rattle.name_cache.specs.declared.binding.Receipt.{Receipt}
use Rattle.name_cache.specs.Types.{ZoneOfEntries, EntrySeat, LiveEntry, NamesPass}
use Rattle.name_cache.specs.Cache.{cache_zone, cache_clock, cache_home, row_count, first_version}
use Rattle.name_cache.specs.Frames.{KeepsKnown}
use Rattle.name_cache.specs.Known.{StillKnows}
use Rattle.name_cache.specs.LockedRow.{row_identity, LeavesMet, MeetsRow, UnlinksInRow, RebindsRow, UnbindsInRow, HasNotKey, IsItemOf, HasItemOf}
use Rattle.name_cache.specs.Parts.{words_of}
use Rattle.name_cache.specs.Room.{entry_ask}
use Rattle.name_cache.specs.Deferred.{Frees}

-- The zone handed out an item for a request that is counted, and these are its parts.
pub record HandsOut (zone : ZoneOfEntries) (old : EntrySeat) (parts : EntryParts) (new : EntrySeat) : Type 0 where
  pub handed : LiveEntry
  pub served : Serves zone entry_ask old handed new
  pub words : parts.entry.words ≡ words_of handed
  pub ticket : parts.ticket ≡ live_ticket handed

-- These are the words and the ticket of an item of the cache's zone. The words are of the cache's clock.
pub record TakesApart (cache : NameCache) (live : LiveEntry) (parts : EntryParts) : Type 0 where
  pub words : parts.entry.words ≡ words_of live
  pub ticket : parts.ticket ≡ live_ticket live
  pub item : IsItemOf (cache_clock cache) (cache_home cache) parts

-- The zone of a cache handed out an entry so. Its words are of the cache's clock, and it is at home in that zone.
pub record HandsEntry (cache : NameCache) (old : EntrySeat) (parts : EntryParts) (new : EntrySeat) : Type 0 where
  pub out : HandsOut (cache_zone cache) old parts new
  pub item : IsItemOf (cache_clock cache) (cache_home cache) parts
  pub counted : CountsAlloc (ledger_of old) (ledger_of new)

-- Where memory was wanting for that, a shelf that was empty sent nothing, and the pass knows nothing more.
pub record SendsNothing (old new : EntrySeat) (v v' : View Part) : Type 0 where
  pub unsent : shelf_of old ≡ [] → sent_of new ≡ sent_of old
  pub unheard : v'.host ≡ v.host

-- Why the zone handed out none.
abbrev pub HandsOutNone : ZoneOfEntries → EntrySeat → EntrySeat → BindRefused → Type 0
HandsOutNone zone old new (Zone refusal) = TurnsAway zone false refusal old new
HandsOutNone zone old new Memory = WantsMemory old new
HandsOutNone zone old new (Worn row version) = ⊥
HandsOutNone zone old new (Unripe read stamp) = ⊥

-- Under the lock of the key's row an entry was handed out, and the row took it or not.
pub record HasRebound (zone : ZoneOfEntries) (rows key value : ℕ) (v : View Part) (old : EntrySeat) (rebound : Rebound) (v' : View Part) (new : EntrySeat) : Type 0 where
  pub was : LockedRow
  pub is : LockedRow
  pub numbered : was.row.number ≡ key % rows
  pub parts : EntryParts
  pub hands_out : HandsOut zone old parts new
  pub between : View Part
  pub knew : StillKnows v between
  pub ends : RebindsRow key value between was parts rebound is v'

-- Under the lock of the key's row the key was taken out of it.
pub record HasTakenOut (rows key value : ℕ) (v : View Part) (receipt : Receipt) (out : EntryParts) (v' : View Part) : Type 0 where
  pub was : LockedRow
  pub is : LockedRow
  pub numbered : was.row.number ≡ key % rows
  pub ends : UnbindsInRow key value v was receipt out is v'

-- Under the lock of the key's row the key wasn't found in it.
pub record HasFoundNone (rows key : ℕ) (v v' : View Part) : Type 0 where
  pub was : LockedRow
  pub is : LockedRow
  pub numbered : was.row.number ≡ key % rows
  pub ends : HasNotKey key v was is v'

-- the record that a bind made is above this version
abbrev pub IsBoundAbove : ℕ → Rebound → Type 0
IsBoundAbove version (Done receipt evicted) = version < receipt.version
IsBoundAbove version (Refused entry refused) = Unit {0}

-- A bind came so far by a request that is counted. The record that it made, if it made one, is above the version with which the cache got the row; and the entry that it leaves out of the row, if there is one, is the cache's.
pub record Rebinds (cache : NameCache) (key value : ℕ) (v : View Part) (old : EntrySeat) (rebound : Rebound) (v' : View Part) (new : EntrySeat) : Type 0 where
  pub in_row : HasRebound (cache_zone cache) (row_count cache) key value v old rebound v' new
  pub since : IsBoundAbove (first_version cache (key % row_count cache)) rebound
  pub items : HasItemOf (cache_clock cache) (cache_home cache) rebound
  pub counted : CountsAlloc (ledger_of old) (ledger_of new)

-- An unbind took the key out of its row, by a record above the version with which the cache got the row. The entry is the cache's.
pub record TakesOut (cache : NameCache) (key value : ℕ) (v : View Part) (receipt : Receipt) (out : EntryParts) (v' : View Part) : Type 0 where
  pub in_row : HasTakenOut (row_count cache) key value v receipt out v'
  pub since : first_version cache (key % row_count cache) < receipt.version
  pub item : IsItemOf (cache_clock cache) (cache_home cache) out

-- The item of these parts was freed by a pass whose view was v before and v' after.
pub record FreesParts (v : View Part) (old : EntrySeat) (parts : EntryParts) (v' : View Part) (new : EntrySeat) : Type 0 where
  pub live : LiveEntry
  pub entry : raised_entry (live_body live) ≡ parts.entry
  pub ticket : live_ticket live ≡ parts.ticket
  pub frees : Frees v old live v' new

-- The item of these parts was freed, if there are any; else the seat is as it was.
abbrev pub FreesEvicted : View Part → EntrySeat → Option EntryParts → View Part → EntrySeat → Type 0
FreesEvicted v old None v' new = new ≡ old
FreesEvicted v old (Some parts) v' new = FreesParts v old parts v' new

-- the row is the same, and the pass goes on and knows what it knew
pub record KeepsRowAndPass (clock : Clock Names Part) (old new : LockedRow) (was is : NamesPass) : Type 0 where
  pub identity : row_identity new ≡ row_identity old
  pub pass : KeepsKnown clock was is

-- the pass has met the row, which is as it was, and goes on
pub record MeetsOn (clock : Clock Names Part) (old new : LockedRow) (was is : NamesPass) : Type 0 where
  pub met : LeavesMet (view was) old new (view is)
  pub pass : GoesOn clock was is

-- the row's entry is out, and the pass has met the row then, and goes on
pub record TakesEntry (clock : Clock Names Part) (old : LockedRow) (out : Option EntryParts) (new : LockedRow) (was is : NamesPass) : Type 0 where
  pub unlinks : UnlinksInRow old out new
  pub told : MeetsRow (view was) new (view is)
  pub pass : GoesOn clock was is
