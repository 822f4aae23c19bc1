-- Own: with what a cache is called, and what its calls leave of a pass and of a seat as it was.
use Rattle.std.specs.Prelude.{◌≡◌, ◌≤◌, ◌<◌, length}
use Rattle.smr_clock.specs.declared.clock.Clock.{Clock}
use Rattle.smr_core.specs.declared.holder.Phase.{Phase}
use Rattle.smr_clock.specs.Belongs.{IsPassOf, clock_id, view, holder}
use Rattle.zone_stats.specs.LedgerSteps.{HasRoom}
use Rattle.uma_seat.specs.Seat.{ledger_of, shelf_of, spares_of, IsSameSeat, KeepsFreed}
use Rattle.uma_zone.specs.Flushed.{HasLastOf}
use Rattle.uma_zone.specs.Frames.{GoesOn, KeepsPass}
use Rattle.name_rows.specs.declared.names.Names.{Names}
use Rattle.name_rows.specs.declared.names.Part.{Part}
use Rattle.name_cache.specs.declared.cache.NameCache.{NameCache}
use Rattle.name_cache.specs.Cache.{cache_clock, IsCacheSeat}
use Rattle.name_cache.specs.Known.{StillKnows}
use Rattle.name_cache.specs.Types.{EntrySeat, NamesPass}

-- ---- with what a cache is called

-- the clock is the cache's, and the pass is of it
pub record IsCachePass (cache : NameCache) (clock : Clock Names Part) (pass : NamesPass) : Type 0 where
  pub same_clock : clock_id clock ≡ cache_clock cache
  pub of_clock : IsPassOf clock pass

-- so are the clock and the pass of a worker, and its seat is one of the cache's zone
pub record IsWorkerOf (cache : NameCache) (clock : Clock Names Part) (pass : NamesPass) (seat : EntrySeat) : Type 0 where
  pub same_clock : clock_id clock ≡ cache_clock cache
  pub of_clock : IsPassOf clock pass
  pub of_zone : IsCacheSeat cache seat

-- and the seat has room for a request
pub record CanRequest (cache : NameCache) (clock : Clock Names Part) (pass : NamesPass) (seat : EntrySeat) : Type 0 where
  pub worker : IsWorkerOf cache clock pass seat
  pub room : HasRoom (ledger_of seat)

-- the clock and the pass are the cache's, and the pass is outside
pub record CanLook (cache : NameCache) (clock : Clock Names Part) (old : NamesPass) : Type 0 where
  pub pass : IsCachePass cache clock old
  pub outside : (holder old).phase ≡ Phase.Outside

-- the seat can take an entry that is freed, and count it
pub record CanFree (seat : EntrySeat) : Type 0 where
  pub spare : 0 < length (spares_of seat)
  pub room : HasRoom (ledger_of seat)

-- ---- what a call leaves as it was

-- the pass goes on as of this clock, and what it knew it still knows
pub record KeepsKnown (clock : Clock Names Part) (old new : NamesPass) : Type 0 where
  pub goes_on : GoesOn clock old new
  pub still : StillKnows (view old) (view new)

-- the pass goes on as of this clock, and is outside
pub record StaysOutside (clock : Clock Names Part) (old new : NamesPass) : Type 0 where
  pub goes_on : GoesOn clock old new
  pub outside : (holder new).phase ≡ Phase.Outside

-- the seat is one of the cache's zone, and made for the same
pub record KeepsSeat (cache : NameCache) (old new : EntrySeat) : Type 0 where
  pub of_zone : IsCacheSeat cache new
  pub same : IsSameSeat old new

-- A request for an entry leaves that of a seat, and its deferred items. Its spare buckets are no fewer, and of its shelf at most the oldest buckets are gone.
pub record KeepsDeferred (cache : NameCache) (old new : EntrySeat) : Type 0 where
  pub of_zone : IsCacheSeat cache new
  pub same : IsSameSeat old new
  pub freed : KeepsFreed old new
  pub spare : length (spares_of old) ≤ length (spares_of new)
  pub shelf : HasLastOf (shelf_of old) (shelf_of new)

-- ---- both

-- a bind or an unbind leaves so of the pass what it knew, and the seat as one of the cache's zone
pub record KeepsWorker (cache : NameCache) (clock : Clock Names Part) (old new : NamesPass) (was is : EntrySeat) : Type 0 where
  pub pass : KeepsKnown clock old new
  pub seat : KeepsSeat cache was is

-- a free leaves also the host part of the pass
pub record KeepsFreeing (cache : NameCache) (clock : Clock Names Part) (old new : NamesPass) (was is : EntrySeat) : Type 0 where
  pub pass : KeepsPass clock old new
  pub seat : KeepsSeat cache was is

-- a request for an entry leaves also the deferred items of the seat
pub record KeepsRequesting (cache : NameCache) (clock : Clock Names Part) (old new : NamesPass) (was is : EntrySeat) : Type 0 where
  pub pass : KeepsKnown clock old new
  pub seat : KeepsDeferred cache was is
