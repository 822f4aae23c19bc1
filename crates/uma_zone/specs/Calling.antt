-- Own: what a call by a pass, or by a pass and a seat, asks of both.
use Rattle.std.specs.Prelude.{◌≡◌, ◌<◌, ℕ, [], true, false}
use Rattle.smr_clock.specs.declared.clock.Setup.{Setup}
use Rattle.smr_clock.specs.declared.clock.Clock.{Clock}
use Rattle.smr_clock.specs.declared.pass.Pass.{Pass}
use Rattle.smr_clock.specs.Belongs.{TableId, IsPassOf, clock_id}
use Rattle.uma_seat.specs.declared.seat.SeatCache.{SeatCache}
use Rattle.uma_seat.specs.Seat.{usable_of}
use Rattle.uma_zone.specs.declared.domains.ZoneDomains.{ZoneDomains}
use Rattle.uma_zone.specs.declared.zone.Zone.{Zone}
use Rattle.uma_zone.specs.Domains.{domain_count, domains_clock, domains_smr, IsSeatOf as IsSeatOfDomains}
use Rattle.uma_zone.specs.Zone.{zone_clock, IsSeatOf as IsSeatOfZone}

module _ {H P : Type 0} {g : _} where
  -- the clock is this one, and the pass is its
  pub record IsBy (id : TableId × Setup) (by : Clock H P) (p : Pass H P g) : Type 0 where
    pub clock : clock_id by ≡ id
    pub pass : IsPassOf by p

module _ {T K H P : Type 0} {g k h : _} where
  -- the seat is of this zone, whose readers go by the clock, and the pass is the clock's
  pub record CanCall (zone : Zone T K H P g k h) (by : Clock H P) (p : Pass H P h) (s : SeatCache T H P g h) : Type 0 where
    pub seat : IsSeatOfZone zone s
    pub clock : clock_id by ≡ zone_clock zone
    pub pass : IsPassOf by p

module _ {T H P : Type 0} {g h : _} where
  -- the same of the zone's domains
  pub record CanFlush (them : ZoneDomains T H P g h) (by : Clock H P) (p : Pass H P h) (s : SeatCache T H P g h) : Type 0 where
    pub clock : clock_id by ≡ domains_clock them
    pub pass : IsPassOf by p
    pub seat : IsSeatOfDomains them s

  -- and no item of the seat is usable
  pub record CanLook (them : ZoneDomains T H P g h) (by : Clock H P) (p : Pass H P h) (s : SeatCache T H P g h) : Type 0 where
    pub none : usable_of s ≡ []
    pub clock : clock_id by ≡ domains_clock them
    pub pass : IsPassOf by p
    pub seat : IsSeatOfDomains them s

  -- the seat is of a zone whose frees aren't deferred
  pub record CanTakePlain (them : ZoneDomains T H P g h) (s : SeatCache T H P g h) : Type 0 where
    pub plain : domains_smr them ≡ false
    pub seat : IsSeatOfDomains them s

  -- the seat is of a zone whose frees are deferred, and the clock is that of its readers
  pub record CanTakeRipe (them : ZoneDomains T H P g h) (by : Clock H P) (s : SeatCache T H P g h) : Type 0 where
    pub smr : domains_smr them ≡ true
    pub clock : clock_id by ≡ domains_clock them
    pub seat : IsSeatOfDomains them s

  -- there is a domain with this number, whose readers go by the clock, and the pass is the clock's
  pub record CanSettle (them : ZoneDomains T H P g h) (by : Clock H P) (p : Pass H P h) (number : ℕ) : Type 0 where
    pub clock : clock_id by ≡ domains_clock them
    pub pass : IsPassOf by p
    pub domain : number < domain_count them
