-- Own: what a call of reclaim needs of a pass and of a seat, and what it leaves of both as it was.
use Rattle.std.specs.Prelude.{◌≡◌, ◌<◌, ℕ}
use Rattle.smr_clock.specs.declared.clock.Clock.{Clock}
use Rattle.smr_clock.specs.declared.pass.Pass.{Pass}
use Rattle.smr_clock.specs.declared.view.View.{View}
use Rattle.smr_clock.specs.Belongs.{IsPassOf, clock_id, view}
use Rattle.uma_seat.specs.declared.seat.SeatCache.{SeatCache}
use Rattle.uma_seat.specs.Seat.{seat_domain, spares_of, shelf_of, IsSameSeat, KeepsFreed, KeepsCounts, KeepsMisses}
use Rattle.uma_zone.specs.declared.zone.Zone.{Zone}
use Rattle.uma_zone.specs.Frames.{GoesOn, KeepsPass, KeepsItems, KeepsButUsable}
use Rattle.uma_zone.specs.OwnDomain.{IsFlushed}
use Rattle.uma_zone.specs.Ports.{sent_of}
use Rattle.uma_zone.specs.Zone.{zone_clock, zone_domains, lists_of, IsSeatOf}
use Rattle.uma_reclaim.specs.Told.{TakesInNotes}

-- the pass went on, and its host's part took in notes alone
pub record TakesIn {H P : Type 0} {h : _} (merged : P → P → P) (by : Clock H P) (p p' : Pass H P h) : Type 0 where
  pub pass : GoesOn by p p'
  pub host : TakesInNotes merged (view p).host (view p').host

module _ {T K H P : Type 0} {g k h : _} where
  -- ---- what a call needs

  -- the clock is that of the zone's readers, and the pass is the clock's
  pub record IsPassFor (zone : Zone T K H P g k h) (by : Clock H P) (p : Pass H P h) : Type 0 where
    pub clock : clock_id by ≡ zone_clock zone
    pub pass : IsPassOf by p

  -- and the seat is of the zone
  pub record MayReclaim (zone : Zone T K H P g k h) (by : Clock H P) (p : Pass H P h) (s : SeatCache T H P g h) : Type 0 where
    pub seat : IsSeatOf zone s
    pub clock : clock_id by ≡ zone_clock zone
    pub pass : IsPassOf by p

  -- the clock is that of the zone's readers, and the zone has a domain of this number
  pub record MayTake (zone : Zone T K H P g k h) (by : Clock H P) (number : ℕ) : Type 0 where
    pub clock : clock_id by ≡ zone_clock zone
    pub domain : number < zone_domains zone

  -- ---- what it leaves

  -- The seat is of the zone still. It was flushed by a pass that had this view before, so its shelf went to the domains, and its spare buckets stay.
  pub record FlushesShelf (zone : Zone T K H P g k h) (copied : P → P) (v : View P) (old new : SeatCache T H P g h) : Type 0 where
    pub seat : IsSeatOf zone new
    pub flushes : IsFlushed (lists_of zone) (seat_domain old) copied (shelf_of old) (shelf_of new) (sent_of old) (sent_of new) v
    pub spares : spares_of new ≡ spares_of old

  -- a flush leaves the host's part of the pass, and all items of the seat
  pub record LeavesAll (zone : Zone T K H P g k h) (copied : P → P) (by : Clock H P) (p p' : Pass H P h) (old new : SeatCache T H P g h) : Type 0 where
    pub pass : KeepsPass by p p'
    pub shelf : FlushesShelf zone copied (view p) old new
    pub items : KeepsItems old new

  -- a trim or a drain leaves all items of the seat
  pub record LeavesItems (zone : Zone T K H P g k h) (merged : P → P → P) (copied : P → P) (by : Clock H P) (p p' : Pass H P h) (old new : SeatCache T H P g h) : Type 0 where
    pub notes : TakesIn merged by p p'
    pub shelf : FlushesShelf zone copied (view p) old new
    pub items : KeepsItems old new

  -- a drain of the seat leaves its deferred items, its ledger and its shares
  pub record LeavesDeferred (zone : Zone T K H P g k h) (merged : P → P → P) (copied : P → P) (by : Clock H P) (p p' : Pass H P h) (old new : SeatCache T H P g h) : Type 0 where
    pub notes : TakesIn merged by p p'
    pub shelf : FlushesShelf zone copied (view p) old new
    pub same : IsSameSeat old new
    pub freed : KeepsFreed old new
    pub counts : KeepsCounts old new
    pub misses : KeepsMisses old new

  -- the seat is of the zone still, and all of it stays but its usable and cross items
  pub record LeavesRest (zone : Zone T K H P g k h) (old new : SeatCache T H P g h) : Type 0 where
    pub seat : IsSeatOf zone new
    pub kept : KeepsButUsable old new
