-- Own: with what the calls of a cache are made, and what they come to.
use Rattle.std.specs.Prelude.{◌%◌, ◌<◌, ℕ, Option, IfSome}
use Rattle.smr_clock.specs.declared.clock.Clock.{Clock}
use Rattle.smr_clock.specs.declared.view.View.{View}
use Rattle.uma_seat.specs.Seat.{ledger_of}
use Rattle.uma_zone.specs.Seat.{IsFresh}
use Rattle.uma_zone.specs.Zone.{zone_bucket}
use Rattle.name_rows.specs.declared.names.Names.{Names}
use Rattle.name_rows.specs.declared.names.Part.{Part}
use Rattle.name_cache.specs.declared.cache.NameCache.{NameCache}
use Rattle.name_cache.specs.declared.parts.EntryParts.{EntryParts}
use Rattle.name_cache.specs.declared.binding.Receipt.{Receipt}
use Rattle.name_cache.specs.Bind.{HasRoomToBind, Binds, WantsMemory, IsOnlyFlushed}
use Rattle.name_cache.specs.Cache.{cache_zone, cache_clock, cache_home, row_count, first_version, IsCacheSeat}
use Rattle.name_cache.specs.Frames.{IsWorkerOf, CanFree}
use Rattle.name_cache.specs.Known.{IsAbove}
use Rattle.name_cache.specs.LockedRow.{IsItemOf}
use Rattle.name_cache.specs.Types.{EntrySeat, NamesPass}
use Rattle.name_cache.specs.Unbind.{Unbinds}

-- a worker of the cache, and its seat has room for a bind
pub record MayBind (cache : NameCache) (clock : Clock Names Part) (pass : NamesPass) (seat : EntrySeat) : Type 0 where
  pub worker : IsWorkerOf cache clock pass seat
  pub room : HasRoomToBind (ledger_of seat)

-- The key is bound, by a record above each of its row that the pass knew, and above the version with which the cache got the row.
pub record BindsKey (cache : NameCache) (key value : ℕ) (v : View Part) (old : EntrySeat) (receipt : Receipt) (v' : View Part) (new : EntrySeat) : Type 0 where
  pub binds : Binds (cache_zone cache) (row_count cache) key value v old receipt v' new
  pub above : IsAbove receipt.row receipt.version v
  pub since : first_version cache (key % row_count cache) < receipt.version

-- memory was wanting, and the seat was flushed, as far as it was there
pub record WantsRoom (cache : NameCache) (old new : EntrySeat) (v v' : View Part) : Type 0 where
  pub wants : WantsMemory old new
  pub flushed : IsOnlyFlushed (cache_zone cache) old new v v'

-- a worker of the cache, whose seat can take an entry, and these parts, if there are any, are an item of the cache's zone
pub record CanFreeParts (cache : NameCache) (clock : Clock Names Part) (pass : NamesPass) (seat : EntrySeat) (parts : Option EntryParts) : Type 0 where
  pub worker : IsWorkerOf cache clock pass seat
  pub places : CanFree seat
  pub item : IfSome parts (IsItemOf (cache_clock cache) (cache_home cache))

-- the seat is one of the cache's zone, and fresh in this domain
pub record IsNewSeat (cache : NameCache) (domain : ℕ) (new : EntrySeat) : Type 0 where
  pub seat : IsCacheSeat cache new
  pub fresh : IsFresh (zone_bucket (cache_zone cache)) domain new

-- The key is taken out, by a record above each of its row that the pass knew, and above the version with which the cache got the row.
pub record UnbindsKey (cache : NameCache) (key value : ℕ) (v : View Part) (old : EntrySeat) (receipt : Receipt) (v' : View Part) (new : EntrySeat) : Type 0 where
  pub unbinds : Unbinds (row_count cache) key value v old receipt v' new
  pub above : IsAbove receipt.row receipt.version v
  pub since : first_version cache (key % row_count cache) < receipt.version
