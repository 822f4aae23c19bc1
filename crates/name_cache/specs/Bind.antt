-- Own: how a bind ends.
use Rattle.std.specs.Prelude.{◌≡◌, ◌≤◌, ◌+◌, ◌<◌, ◌^◌, ◌%◌, ℕ, Some}
use Rattle.smr_clock.specs.declared.view.View.{View}
use Rattle.zone_stats.specs.declared.ledger.SeatLedger.{SeatLedger}
use Rattle.zone_stats.specs.LedgerSteps.{HasRoom}
use Rattle.uma_life.specs.Live.{live_no, live_ticket}
use Rattle.uma_seat.specs.Seat.{seat_domain, usable_of, shelf_of, ledger_of, KeepsFreed}
use Rattle.uma_zone.specs.declared.zone.alloc.AllocRefused.{AllocRefused}
use Rattle.uma_zone.specs.declared.zone.alloc.AllocRefused.TheVariants.{Refused, Memory as NoMemory}
use Rattle.uma_zone.specs.Flushed.{HasLastOf}
use Rattle.uma_zone.specs.OwnDomain.{IsFlushed}
use Rattle.uma_zone.specs.Ports.{sent_of}
use Rattle.uma_zone.specs.Zone.{lists_of}
use Rattle.name_rows.specs.declared.entry.EntryState.TheVariants.{Clean}
use Rattle.name_rows.specs.declared.names.Part.{Part}
use Rattle.name_rows.specs.declared.names.Record.{Record}
use Rattle.name_rows.specs.Entries.{OnWords}
use Rattle.name_rows.specs.Reading.{IsNewest}
use Rattle.name_rows.specs.Records.{told}
use Rattle.name_rows.specs.Ripening.{IsUnripe}
use Rattle.name_cache.specs.declared.binding.BindRefused.{BindRefused}
use Rattle.name_cache.specs.declared.binding.BindRefused.TheVariants.{Zone, Worn, Unripe, Memory}
use Rattle.name_cache.specs.declared.binding.Receipt.{Receipt}
use Rattle.name_cache.specs.Types.{ZoneOfEntries, EntrySeat, LiveEntry}
use Rattle.name_cache.specs.Known.{known_in, Meets, KnowsBound}
use Rattle.name_cache.specs.LockedRow.{StaysAs}
use Rattle.name_cache.specs.Parts.{words_of, state_of}
use Rattle.name_cache.specs.Room.{TurnsEntryAway, Allocates}
use Rattle.name_cache.specs.Deferred.{Frees, FreesBound}

-- why a key isn't bound, where the zone gives no entry
abbrev pub as_bind : AllocRefused → BindRefused
as_bind (Refused refusal) = Zone refusal
as_bind NoMemory = Memory

-- a bind counts a request and a free
pub record HasRoomToBind (ledger : SeatLedger) : Type 0 where
  pub now : HasRoom ledger
  pub later : ledger.requests + 1 < 2 ^ 63

-- The key is bound: the zone handed out an entry. The pass knows the row's record before, and no record of the row that it knew is newer. The receipt names the next record, which the pass knows too, and which binds the key to the value by that entry. What the row bound before is freed with a stamp, if there was anything, by the pass as it had left the row; nothing else on the seat changes then.
pub record Binds (zone : ZoneOfEntries) (rows key value : ℕ) (v : View Part) (old : EntrySeat) (receipt : Receipt) (v' : View Part) (new : EntrySeat) : Type 0 where
  pub row : receipt.row ≡ key % rows
  pub before : Record
  pub met : Meets v receipt.row before v'
  pub next : receipt.version ≡ before.version + 1
  pub low : before.version + 2 < 2 ^ 44
  pub handed : LiveEntry
  pub after : EntrySeat
  pub takes : Allocates zone old handed after
  pub knows : KnowsBound (record { entry = live_no handed; key = key; value = value }) receipt (known_in v')
  pub left : View Part
  pub told : v'.host ≡ left.host
  pub evicts : FreesBound left after before.content v' new

-- The zone handed out an entry, and it was freed again by the pass as it had left the row: the same item, though perhaps in another state.
pub record HandsBack (zone : ZoneOfEntries) (old : EntrySeat) (handed freed : LiveEntry) (v' : View Part) (new : EntrySeat) : Type 0 where
  pub after : EntrySeat
  pub takes : Allocates zone old handed after
  pub ticket : live_ticket freed ≡ live_ticket handed
  pub left : View Part
  pub told : v'.host ≡ left.host
  pub frees : Frees left after freed v' new

-- The row is as it was: the pass knows its record, and knows no record of it that is newer.
pub record KeepsRow (row : ℕ) (v v' : View Part) : Type 0 where
  pub last : Record
  pub met : Meets v row last v'
  pub newest : IsNewest (known_in v') last
  pub stays : StaysAs row last

-- The entry that the zone handed out isn't ripe: the read sequence that was loaded is below its stamp, which it had, or, where it was unlinked without one, was given. It is deferred, with that stamp, and its floor is that hand.
pub record FindsUnripe (zone : ZoneOfEntries) (rows key : ℕ) (v : View Part) (old : EntrySeat) (read stamp : ℕ) (v' : View Part) (new : EntrySeat) : Type 0 where
  pub kept : KeepsRow (key % rows) v v'
  pub handed : LiveEntry
  pub freed : LiveEntry
  pub back : HandsBack zone old handed freed v' new
  pub unripe : OnWords (IsUnripe (record { read = read; stamp = stamp })) (words_of handed) (words_of freed)

-- The row can't take a further name: its record has this version. The entry that the zone handed out is ripe, and deferred.
pub record FindsWorn (zone : ZoneOfEntries) (rows key : ℕ) (v : View Part) (old : EntrySeat) (row version : ℕ) (v' : View Part) (new : EntrySeat) : Type 0 where
  pub of_key : row ≡ key % rows
  pub worn : 2 ^ 44 ≤ version + 2
  pub kept : KeepsRow row v v'
  pub same : kept.last.version ≡ version
  pub handed : LiveEntry
  pub freed : LiveEntry
  pub back : HandsBack zone old handed freed v' new
  pub clean : state_of freed ≡ Some Clean

-- Memory was wanting. Nothing is counted, and no item is freed or becomes usable or live. Of the shelf at most the oldest buckets are gone.
pub record WantsMemory (old new : EntrySeat) : Type 0 where
  pub ledger : ledger_of new ≡ ledger_of old
  pub usable : usable_of new ≡ usable_of old
  pub freed : KeepsFreed old new
  pub shelf : HasLastOf (shelf_of old) (shelf_of new)

-- The seat was flushed, as far as memory was there: each bucket of its shelf is in an inbox or a list, or on the shelf still. The pass knows nothing more.
pub record IsOnlyFlushed (zone : ZoneOfEntries) (old new : EntrySeat) (v v' : View Part) : Type 0 where
  pub flushed : IsFlushed (lists_of zone) (seat_domain old) told (shelf_of old) (shelf_of new) (sent_of old) (sent_of new) v
  pub unheard : v'.host ≡ v.host

-- Why the key isn't bound, in this order of tests: memory was wanting, or the zone's one fetch was refused, as the zone says; the entry isn't ripe; the row is worn.
abbrev pub RefusesToBind : ZoneOfEntries → ℕ → ℕ → View Part → EntrySeat → View Part → EntrySeat → BindRefused → Type 0
RefusesToBind zone rows key v old v' new (Zone refusal) = TurnsEntryAway zone refusal old new
RefusesToBind zone rows key v old v' new (Worn row version) = FindsWorn zone rows key v old row version v' new
RefusesToBind zone rows key v old v' new (Unripe read stamp) = FindsUnripe zone rows key v old read stamp v' new
RefusesToBind zone rows key v old v' new Memory = WantsMemory old new
