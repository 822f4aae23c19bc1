-- What a call of reclaim leaves of the seat through which it is made, and what it gives back (own).
use Rattle.std.specs.Prelude.{◌≡◌, ℕ, List, []}
use Rattle.smr_clock.specs.declared.host.Host.{Ghosts}
use Rattle.smr_clock.specs.declared.view.View.{View}
use Rattle.uma_domain.specs.declared.trims.TakenBucket.{TakenBucket}
use Rattle.uma_reclaim.specs.Cached.{cached_in}
use Rattle.uma_reclaim.specs.Given.{AreGiven, GivesEach}
use Rattle.uma_reclaim.specs.Reclaimed.{AreSettled, ComesFrom, DrainsEach, TrimsEach}
use Rattle.uma_seat.specs.declared.seat.SeatCache.{SeatCache}
use Rattle.uma_seat.specs.Seat.{seat_domain, usable_of, spares_of, shelf_of, HasNoCross, IsSameSeat, KeepsTop, KeepsPlain, KeepsFreed, KeepsCounts, KeepsMisses}
use Rattle.uma_zone.specs.KegStates.{FreesSlabsOf}
use Rattle.uma_zone.specs.OwnDomain.{IsFlushed as IsShelfFlushed}
use Rattle.uma_zone.specs.Ports.{sent_of}
use Rattle.uma_zone.specs.Zone.{lists_of}
use Rattle.replay_worker.specs.declared.count_hooks.Counted.{Counted}
use Rattle.replay_worker.specs.contracts.count_hooks.CountedBody.TheImpl.{ghosts as counted_body}
use Rattle.replay_worker.specs.Items.{CountedSeat, CountedZone}

module _ {T H P : Type 0} {g h : _} where
  -- Its deferred items, its spare buckets, its ledger and its shares stay.
  pub record KeepsSeat (old new : SeatCache T H P g h) : Type 0 where
    pub same : IsSameSeat old new
    pub spares : spares_of new ≡ spares_of old
    pub freed : KeepsFreed old new
    pub counts : KeepsCounts old new
    pub misses : KeepsMisses old new

  -- what `trim` and `drain` leave: the shelf went to the lists of the zone, and all else stays, the cached items too
  pub record IsFlushed (old new : SeatCache T H P g h) : Type 0 where
    pub keeps : KeepsSeat old new
    pub flushed : shelf_of new ≡ []
    pub top : KeepsTop old new
    pub plain : KeepsPlain old new

  -- what `drain_seat` leaves: the same without usable and cross items
  pub record IsDrained (old new : SeatCache T H P g h) : Type 0 where
    pub keeps : KeepsSeat old new
    pub flushed : shelf_of new ≡ []
    pub no_usable : usable_of new ≡ []
    pub no_cross : HasNoCross new

module _ {H P : Type 0} {h : Ghosts H P} where
  -- The seat was flushed by a pass whose view was v before, so its shelf went to the domains. Each domain of the zone was settled, and then gave up these buckets, take by take; all items of them came back to the zone's keg.
  pub record GivesTakes (zone : CountedZone H P h) (Own : List (List (TakenBucket Counted H P counted_body h)) → Type 0) (v : View P) (old new : CountedSeat H P h) : Type 0 where
    pub shelf : IsShelfFlushed (lists_of zone) (seat_domain old) h.copied (shelf_of old) (shelf_of new) (sent_of old) (sent_of new) v
    pub settled : AreSettled zone h.copied
    pub takes : List (List (TakenBucket Counted H P counted_body h))
    pub from : ComesFrom zone takes
    pub own : Own takes
    pub given : AreGiven zone takes

  -- a `trim`: each domain of the zone gave up, once, what it didn't use since its last trim, and no more
  pub record HasTrimmed (zone : CountedZone H P h) (v : View P) (old new : CountedSeat H P h) : Type 0 where
    pub seat : IsFlushed old new
    pub gives : GivesTakes zone (TrimsEach zone) v old new

  -- a `drain`: each domain gave up, once, all that may be given back, and the keg its wholly free slabs
  pub record HasDrained (zone : CountedZone H P h) (v : View P) (old new : CountedSeat H P h) : Type 0 where
    pub seat : IsFlushed old new
    pub gives : GivesTakes zone (DrainsEach zone) v old new
    pub slabs : ℕ
    pub gave_up : FreesSlabsOf zone slabs

  -- a `drainseat`: the same, and besides as many items came back one by one as the seat had usable and cross ones
  pub record HasDrainedSeat (zone : CountedZone H P h) (v : View P) (old new : CountedSeat H P h) : Type 0 where
    pub seat : IsDrained old new
    pub gives : GivesTakes zone (DrainsEach zone) v old new
    pub own : GivesEach zone (cached_in old)
    pub slabs : ℕ
    pub gave_up : FreesSlabsOf zone slabs
