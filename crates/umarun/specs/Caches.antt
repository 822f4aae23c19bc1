-- What contracts see of the cache of a trace (own).
use Rattle.std.specs.Prelude.{◌≡◌, ◌*◌, ◌⊎◌, ℕ, false, List, map}
use Rattle.std.specs.Option.{option_map_or}
use Rattle.smr_clock.specs.declared.clock.Setup.{Setup}
use Rattle.smr_clock.specs.declared.view.View.{View}
use Rattle.smr_clock.specs.Belongs.{TableId}
use Rattle.uma_keg.specs.declared.census.Census.{Census}
use Rattle.uma_keg.specs.Census.{census_table}
use Rattle.uma_life.specs.declared.states.Cached.{Cached}
use Rattle.uma_life.specs.declared.states.Ticket.{Ticket}
use Rattle.uma_life.specs.Cached.{cached_ticket}
use Rattle.uma_zone.specs.Alloc.{AreReused, IsOneFetch, IsOneRefusal}
use Rattle.uma_zone.specs.Zone.{zone_bucket, zone_cap}
use Rattle.name_rows.specs.declared.names.Part.{Part}
use Rattle.name_cache.specs.Bind.{FindsUnripe, FindsWorn}
use Rattle.name_cache.specs.Cache.{cache_zone, cache_clock, cache_domains, cache_home, row_count, IsCacheSeat}
use Rattle.name_cache.specs.contracts.entry_hooks.RaisedEntryBody.TheImpl.{ghosts as raised_body}
use Rattle.name_cache.specs.declared.cache.NameCache.{NameCache}
use Rattle.name_cache.specs.declared.entry_hooks.RaisedEntry.{RaisedEntry}
use Rattle.name_cache.specs.Types.{EntrySeat}
use Rattle.zone_stats.specs.declared.refusal.Refusal.{Refusal}
use Rattle.trace_text.specs.declared.trace.Head.{Head}
use Rattle.trace_text.specs.declared.trace.NamesHead.{NamesHead}
use Rattle.replay_worker.specs.NameSizes.{NameSizes}
use Rattle.umarun.specs.declared.cache_names.TraceCache.{TraceCache}

-- the clock by which its readers go
abbrev pub clock_in : TraceCache → TableId × Setup
clock_in kept = cache_clock kept.cache

abbrev pub sizes_by : NameCache → NameSizes
sizes_by cache = record { rows = row_count cache; slabs = zone_cap (cache_zone cache); bucket = zone_bucket (cache_zone cache); domains = cache_domains cache }

abbrev pub sizes_in : TraceCache → NameSizes
sizes_in kept = sizes_by kept.cache

-- the seat is one of its zone
abbrev pub IsSeatIn : TraceCache → EntrySeat → Type 0
IsSeatIn kept seat = IsCacheSeat kept.cache seat

-- the rows of a names line, and its entries, 64 a slab
abbrev pub plan_by : NamesHead → ℕ × ℕ
plan_by line = (line.rows, line.slabs * 64)

abbrev pub plan_for : Head → ℕ × ℕ
plan_for head = option_map_or plan_by head.names (0, 0)

abbrev pub CachedEntry : Type 0
CachedEntry = Cached RaisedEntry raised_body

-- These entries, by their tickets, came to a seat by one call: out of a bucket of freed entries, which waited until a poll said yes, or by one fetch from the keg.
pub record CameIn (kept : TraceCache) (tickets : List Ticket) : Type 0 where
  pub items : List CachedEntry
  pub are : tickets ≡ map cached_ticket items
  pub from : AreReused (cache_zone kept.cache) items ⊎ ((seat : EntrySeat) × IsOneFetch (cache_zone kept.cache) false items seat)

-- one fetch from its keg was refused so, by the numbers that it found
abbrev pub IsFoundIn : TraceCache → Refusal → Type 0
IsFoundIn kept refusal = (seat : EntrySeat) × IsOneRefusal (cache_zone kept.cache) false refusal seat

-- A bind of the key got an entry that isn't ripe, or that its row, which is worn, can't take, and freed it again.
abbrev pub TurnsBackIn : TraceCache → ℕ → View Part → EntrySeat → View Part → EntrySeat → Type 0
TurnsBackIn kept key v old v' new =
    ((read stamp : ℕ) × FindsUnripe (cache_zone kept.cache) (row_count kept.cache) key v old read stamp v' new)
    ⊎ ((row version : ℕ) × FindsWorn (cache_zone kept.cache) (row_count kept.cache) key v old row version v' new)

-- the census is of its keg
abbrev pub IsCensusIn : TraceCache → Census → Type 0
IsCensusIn kept census = census_table census ≡ (cache_home kept.cache).book
