-- Own: what a settle of a zone's domains comes to, and of one of them.
use Rattle.std.specs.Prelude.{◌≡◌, ℕ, [], Result, OnOk, OnErr}
use Rattle.smr_clock.specs.declared.clock.Clock.{Clock}
use Rattle.smr_clock.specs.declared.pass.Pass.{Pass}
use Rattle.smr_clock.specs.Belongs.{view}
use Rattle.uma_seat.specs.declared.seat.SeatCache.{SeatCache}
use Rattle.uma_seat.specs.Seat.{seat_domain, spares_of, shelf_of}
use Rattle.uma_zone.specs.declared.domains.ZoneDomains.{ZoneDomains}
use Rattle.uma_zone.specs.Domains.{domain_count, IsSeatOf}
use Rattle.uma_zone.specs.Flushed.{HasLastOf}
use Rattle.uma_zone.specs.Frames.{KeepsPass, KeepsItems}
use Rattle.uma_zone.specs.OwnDomain.{TriesLoose, IsFlushed, Settles, IsSettled, SettlesFirst}
use Rattle.uma_zone.specs.Ports.{sent_of}
use Rattle.uma_zone.specs.Stopped.{SettlesInPart, StopsSettling, StopsToLook}

module _ {T H P : Type 0} {g h : _} where
  -- A settle of the domain of this number: whole, or in part where memory was wanting, and the pass did nothing then.
  pub record SettlesOne {E : Type 0} (them : ZoneDomains T H P g h) (number : ℕ) (copied : P → P) (by : Clock H P) (p : Pass H P h) (result : Result (Unit {0}) E) (p' : Pass H P h) : Type 0 where
    pub pass : KeepsPass by p p'
    pub settled : OnOk result (Settles them number copied (view p) (view p'))
    pub unseen : OnErr result (view p' ≡ view p)
    pub part : OnErr result (SettlesInPart them number)

  -- A settle of each domain; where memory was wanting, those before one of them are settled, and that one in part.
  pub record SettlesEach {E : Type 0} (them : ZoneDomains T H P g h) (copied : P → P) (by : Clock H P) (p : Pass H P h) (result : Result (Unit {0}) E) (p' : Pass H P h) : Type 0 where
    pub pass : KeepsPass by p p'
    pub settled : OnOk result (SettlesFirst them copied (view p) (domain_count them) (view p'))
    pub stopped : OnErr result (StopsSettling them copied (view p) (view p'))

  -- In an SMR zone each loose bucket that the domain of this number lists was tried once to be sealed; in any other the pass did nothing.
  pub record TriesOwn (them : ZoneDomains T H P g h) (number : ℕ) (copied : P → P) (by : Clock H P) (p p' : Pass H P h) : Type 0 where
    pub pass : KeepsPass by p p'
    pub tries : TriesLoose them number copied (view p) (view p')

  -- A flush of a seat, which stays one of its zone, and then a settle of its own domain. Where memory was wanting for the one or the other, the last buckets of the shelf may stay. Nothing else of the seat changed but what its ports pushed.
  pub record FlushesToLook {E : Type 0} (them : ZoneDomains T H P g h) (copied : P → P) (by : Clock H P) (p : Pass H P h) (s : SeatCache T H P g h) (result : Result (Unit {0}) E) (p' : Pass H P h) (s' : SeatCache T H P g h) : Type 0 where
    pub pass : KeepsPass by p p'
    pub seat : IsSeatOf them s'
    pub flushed : OnOk result (shelf_of s' ≡ [])
    pub stay : HasLastOf (shelf_of s) (shelf_of s')
    pub spares : spares_of s' ≡ spares_of s
    pub kept : KeepsItems s s'
    pub flushes : IsFlushed them (seat_domain s) copied (shelf_of s) (shelf_of s') (sent_of s) (sent_of s') (view p)
    pub settled : OnOk result (IsSettled them (seat_domain s) copied)
    pub stopped : OnErr result (StopsToLook them s s')
