-- Own: what the calls of a zone's domains leave of a pass and of a seat as it was.
use Rattle.std.specs.Prelude.{◌≡◌, ◌≤◌}
use Rattle.smr_clock.specs.declared.clock.Clock.{Clock}
use Rattle.smr_clock.specs.declared.pass.Pass.{Pass}
use Rattle.smr_clock.specs.Belongs.{IsPassOf, view, holder}
use Rattle.uma_seat.specs.declared.seat.SeatCache.{SeatCache}
use Rattle.uma_seat.specs.Seat.{shelf_of, IsSameSeat, KeepsTop, KeepsPlain, KeepsFreed, KeepsRack, KeepsCounts, KeepsMisses, KeepsPorts}

module _ {H P : Type 0} {g : _} where
  -- the pass is of this clock, in the phase that it was in, and has seen what it had
  pub record GoesOn (clock : Clock H P) (old new : Pass H P g) : Type 0 where
    pub own : IsPassOf clock new
    pub phase : (holder new).phase ≡ (holder old).phase
    pub seen : (holder old).seen ≤ (holder new).seen

  -- and what its host put into it is as it was
  pub record KeepsPass (clock : Clock H P) (old new : Pass H P g) : Type 0 where
    pub goes_on : GoesOn clock old new
    pub host : (view new).host ≡ (view old).host

module _ {T H P : Type 0} {g h : _} where
  -- a flush leaves all of a seat but its shelf, its spare buckets and what its ports pushed
  pub record KeepsItems (old new : SeatCache T H P g h) : Type 0 where
    pub same : IsSameSeat old new
    pub top : KeepsTop old new
    pub plain : KeepsPlain old new
    pub freed : KeepsFreed old new
    pub counts : KeepsCounts old new
    pub misses : KeepsMisses old new

  -- a look leaves all of a seat but its allocation bucket, its spare buckets and its misses
  pub record KeepsButTop (old new : SeatCache T H P g h) : Type 0 where
    pub same : IsSameSeat old new
    pub plain : KeepsPlain old new
    pub freed : KeepsFreed old new
    pub shelf : shelf_of new ≡ shelf_of old
    pub counts : KeepsCounts old new
    pub ports : KeepsPorts old new

  -- a bucket that is taken out of a list, or the miss of one, leaves all of a seat but its misses
  pub record KeepsButMisses (old new : SeatCache T H P g h) : Type 0 where
    pub same : IsSameSeat old new
    pub top : KeepsTop old new
    pub plain : KeepsPlain old new
    pub freed : KeepsFreed old new
    pub rack : KeepsRack old new
    pub counts : KeepsCounts old new
    pub ports : KeepsPorts old new

  -- items that are taken from a seat one by one leave all of it but its usable items and those freed of other domains
  pub record KeepsButUsable (old new : SeatCache T H P g h) : Type 0 where
    pub same : IsSameSeat old new
    pub freed : KeepsFreed old new
    pub rack : KeepsRack old new
    pub counts : KeepsCounts old new
    pub misses : KeepsMisses old new
    pub ports : KeepsPorts old new
