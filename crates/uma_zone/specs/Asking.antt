-- Own: what the calls on a zone's seat ask for.
use Rattle.std.specs.Prelude.{◌≡◌, ◌≤◌, ◌<◌, ℕ, true, false, [], length}
use Rattle.smr_clock.specs.declared.clock.Clock.{Clock}
use Rattle.smr_clock.specs.declared.pass.Pass.{Pass}
use Rattle.smr_clock.specs.Belongs.{IsPassOf, clock_id}
use Rattle.zone_stats.specs.LedgerSteps.{HasRoom}
use Rattle.uma_life.specs.declared.states.Cached.{Cached}
use Rattle.uma_life.specs.declared.states.Live.{Live}
use Rattle.uma_life.specs.Cached.{cached_ticket}
use Rattle.uma_life.specs.Live.{live_ticket}
use Rattle.uma_bucket.specs.Home.{IsHome}
use Rattle.uma_seat.specs.declared.seat.SeatCache.{SeatCache}
use Rattle.uma_seat.specs.Seat.{top_of, usable_of, spares_of, ledger_of}
use Rattle.uma_zone.specs.declared.zone.Zone.{Zone}
use Rattle.uma_zone.specs.Zone.{zone_home, zone_clock, zone_domains, zone_smr, IsSeatOf}

module _ {T K H P : Type 0} {g k h : _} where
  -- ---- a request

  -- the seat is of this zone and has room in its ledger, and the pass is of the clock of the zone's readers
  pub record CanAlloc (zone : Zone T K H P g k h) (by : Clock H P) (p : Pass H P h) (s : SeatCache T H P g h) : Type 0 where
    pub seat : IsSeatOf zone s
    pub clock : clock_id by ≡ zone_clock zone
    pub pass : IsPassOf by p
    pub room : HasRoom (ledger_of s)

  -- and no item is usable on the seat
  pub record CanFill (zone : Zone T K H P g k h) (by : Clock H P) (p : Pass H P h) (s : SeatCache T H P g h) : Type 0 where
    pub asked : CanAlloc zone by p s
    pub none : usable_of s ≡ []

  -- the allocation bucket of a seat of this zone is empty, and its ledger has room
  pub record CanFetch (zone : Zone T K H P g k h) (s : SeatCache T H P g h) : Type 0 where
    pub seat : IsSeatOf zone s
    pub empty : (top_of s).items ≡ []
    pub room : HasRoom (ledger_of s)

  -- the item is at home in the zone, and its seat can take it back and count the request
  pub record CanBuild (zone : Zone T K H P g k h) (item : Cached T g) (s : SeatCache T H P g h) : Type 0 where
    pub seat : IsSeatOf zone s
    pub room : HasRoom (ledger_of s)
    pub top_room : length (top_of s).items < (top_of s).room
    pub home : IsHome (zone_home zone) (cached_ticket item)

  -- ---- a free

  -- the seat is of this zone, with a spare bucket and room in its ledger, and the item is at home there
  pub record CanPut (zone : Zone T K H P g k h) (live : Live T g) (s : SeatCache T H P g h) : Type 0 where
    pub seat : IsSeatOf zone s
    pub spare : 0 < length (spares_of s)
    pub room : HasRoom (ledger_of s)
    pub home : IsHome (zone_home zone) (live_ticket live)

  -- and the zone is a plain one
  pub record CanFree (zone : Zone T K H P g k h) (live : Live T g) (s : SeatCache T H P g h) : Type 0 where
    pub plain : zone_smr zone ≡ false
    pub put : CanPut zone live s

  -- and readers of the zone hold no lock; the pass is of their clock
  pub record CanFreeSmr (zone : Zone T K H P g k h) (by : Clock H P) (p : Pass H P h) (live : Live T g) (s : SeatCache T H P g h) : Type 0 where
    pub smr : zone_smr zone ≡ true
    pub clock : clock_id by ≡ zone_clock zone
    pub pass : IsPassOf by p
    pub put : CanPut zone live s

  -- ---- slabs ahead of requests

  -- so many items fill no more slabs than a keg may have, and the zone has that memory domain
  pub record CanPrealloc (zone : Zone T K H P g k h) (count number : ℕ) : Type 0 where
    pub items : count ≤ 262144
    pub domain : number < zone_domains zone
