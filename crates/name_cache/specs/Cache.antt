-- Own: what contracts see of a cache of names.
use Rattle.std.specs.Prelude.{ℕ, List, map, slice_index_or}
use Rattle.smr_clock.specs.declared.clock.Setup.{Setup}
use Rattle.smr_clock.specs.Belongs.{TableId}
use Rattle.uma_bucket.specs.Home.{Home}
use Rattle.uma_zone.specs.Zone.{zone_clock, zone_home, zone_domains, IsSeatOf}
use Rattle.name_cache.specs.declared.cache.NameCache.{NameCache}
use Rattle.name_cache.specs.Locks.{lock_version}
use Rattle.name_cache.specs.Types.{ZoneOfEntries, EntrySeat}

-- its zone of entries
abbrev pub cache_zone : NameCache → ZoneOfEntries
cache_zone cache = cache.zone

-- the clock of its rows and its entries
abbrev pub cache_clock : NameCache → TableId × Setup
cache_clock cache = zone_clock cache.zone

-- where its entries are at home
abbrev pub cache_home : NameCache → Home
cache_home cache = zone_home cache.zone

-- how many memory domains its zone has
abbrev pub cache_domains : NameCache → ℕ
cache_domains cache = zone_domains cache.zone

-- how many rows it has
abbrev pub row_count : NameCache → ℕ
row_count cache = (cache_clock cache).1.plan.0

-- the versions with which it got its rows, in order; none falls below it
abbrev pub first_versions : NameCache → List ℕ
first_versions cache = map lock_version cache.rows.items

-- that of one row
abbrev pub first_version : NameCache → ℕ → ℕ
first_version cache row = slice_index_or (first_versions cache) row 0

-- the seat is one of its zone
abbrev pub IsCacheSeat : NameCache → EntrySeat → Type 0
IsCacheSeat cache seat = IsSeatOf cache.zone seat
