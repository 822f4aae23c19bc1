-- Own: what a cache is made with, and what a census of it says.
use Rattle.std.specs.Prelude.{◌≡◌, ◌/◌, List, length, map, min}
use Rattle.smr_clock.specs.declared.clock.Clock.{Clock}
use Rattle.smr_clock.specs.declared.clock.Setup.{Setup}
use Rattle.smr_clock.specs.Belongs.{TableId, clock_id}
use Rattle.uma_bucket.specs.Home.{Home}
use Rattle.uma_keg.specs.declared.census.Census.{Census}
use Rattle.uma_keg.specs.Census.{census_counts, census_table}
use Rattle.uma_zone.specs.declared.zone.make.ZoneSet.{ZoneSet}
use Rattle.uma_zone.specs.Zone.{zone_size, zone_bucket, zone_limit, zone_cap, zone_reserve}
use Rattle.name_rows.specs.declared.names.Names.{Names}
use Rattle.name_rows.specs.declared.making.Opened.{Opened}
use Rattle.name_rows.specs.declared.names.Part.{Part}
use Rattle.name_rows.specs.declared.row.Row.{Row}
use Rattle.name_cache.specs.declared.cache.NameCache.{NameCache}
use Rattle.name_cache.specs.Cache.{cache_zone, cache_clock, cache_domains, cache_home, first_versions}
use Rattle.name_cache.specs.Locks.{RowLock, AreNamed, lock_version}
use Rattle.name_cache.specs.Making.{versions_of}
use Rattle.name_cache.specs.Types.{NamesPass}

-- The cache is of this clock of names and its rows, and its zone has entries of 64 bytes and the numbers of the set. The clock and its passes are as they were handed in.
pub record IsMadeOf (opened : Opened) (set : ZoneSet) (cache : NameCache) (clock : Clock Names Part) (passes : List NamesPass) : Type 0 where
  pub same_clock : clock ≡ opened.clock
  pub same_passes : passes ≡ opened.passes
  pub of_clock : cache_clock cache ≡ clock_id opened.clock
  pub versions : first_versions cache ≡ versions_of opened.rows
  pub domains : cache_domains cache ≡ set.domains
  pub size : zone_size (cache_zone cache) ≡ 64
  pub bucket : zone_bucket (cache_zone cache) ≡ set.bucket
  pub cap : zone_cap (cache_zone cache) ≡ set.slabs
  pub limit : zone_limit (cache_zone cache) ≡ set.limit
  pub reserve : zone_reserve (cache_zone cache) ≡ set.reserve

-- There is a lock for each of the rows, in order.
pub record AreLocksOf (clock : TableId × Setup) (home : Home) (rows : List Row) (locks : List RowLock) : Type 0 where
  pub long : length locks ≡ length rows
  pub named : AreNamed clock home locks
  pub versions : map lock_version locks ≡ versions_of rows

-- The census is of the cache's keg, with the numbers that its zone was made with.
pub record IsCensusOf (cache : NameCache) (census : Census) : Type 0 where
  pub table : census_table census ≡ (cache_home cache).book
  pub cap : (census_counts census).cap ≡ zone_cap (cache_zone cache)
  pub reserve : (census_counts census).reserve ≡ zone_reserve (cache_zone cache)
  pub per_slab : (census_counts census).per_slab ≡ min 256 (4096 / zone_size (cache_zone cache))
