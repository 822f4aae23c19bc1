-- Own: what a call leaves of a seat as it was, and of a pass that it takes. A name says what of the seat may change; the rest is kept.
use Rattle.std.specs.Prelude.{◌≡◌, ◌≤◌}
use Rattle.smr_clock.specs.declared.clock.Clock.{Clock}
use Rattle.smr_clock.specs.declared.pass.Pass.{Pass}
use Rattle.smr_clock.specs.Belongs.{IsPassOf, view, holder}
use Rattle.uma_seat.specs.declared.seat.SeatCache.{SeatCache}
use Rattle.uma_seat.specs.Seat.{fetches_of, seat_fails, IsSameSeat, KeepsTop, KeepsPlain, KeepsFreed, KeepsRack, KeepsCounts, KeepsMisses, KeepsPorts, KeepsLists}

module _ {T H P : Type 0} {g h : _} where
  pub record KeepsAllButTop (old new : SeatCache T H P g h) : Type 0 where
    pub same : IsSameSeat old new
    pub ports : KeepsPorts old new
    pub plain : KeepsPlain old new
    pub freed : KeepsFreed old new
    pub rack : KeepsRack old new
    pub counts : KeepsCounts old new
    pub misses : KeepsMisses old new

  -- the usable items are those of the allocation bucket and of the free bucket
  pub record KeepsAllButUsable (old new : SeatCache T H P g h) : Type 0 where
    pub same : IsSameSeat old new
    pub ports : KeepsPorts old new
    pub freed : KeepsFreed old new
    pub rack : KeepsRack old new
    pub counts : KeepsCounts old new
    pub misses : KeepsMisses old new

  pub record KeepsAllButPlain (old new : SeatCache T H P g h) : Type 0 where
    pub same : IsSameSeat old new
    pub ports : KeepsPorts old new
    pub top : KeepsTop old new
    pub freed : KeepsFreed old new
    pub rack : KeepsRack old new
    pub counts : KeepsCounts old new
    pub misses : KeepsMisses old new

  pub record KeepsAllButFreed (old new : SeatCache T H P g h) : Type 0 where
    pub same : IsSameSeat old new
    pub ports : KeepsPorts old new
    pub top : KeepsTop old new
    pub plain : KeepsPlain old new
    pub rack : KeepsRack old new
    pub counts : KeepsCounts old new
    pub misses : KeepsMisses old new

  pub record KeepsAllButRack (old new : SeatCache T H P g h) : Type 0 where
    pub same : IsSameSeat old new
    pub ports : KeepsPorts old new
    pub top : KeepsTop old new
    pub plain : KeepsPlain old new
    pub freed : KeepsFreed old new
    pub counts : KeepsCounts old new
    pub misses : KeepsMisses old new

  pub record KeepsAllButPlainAndRack (old new : SeatCache T H P g h) : Type 0 where
    pub same : IsSameSeat old new
    pub ports : KeepsPorts old new
    pub top : KeepsTop old new
    pub freed : KeepsFreed old new
    pub counts : KeepsCounts old new
    pub misses : KeepsMisses old new

  pub record KeepsAllButFreedAndRack (old new : SeatCache T H P g h) : Type 0 where
    pub same : IsSameSeat old new
    pub ports : KeepsPorts old new
    pub top : KeepsTop old new
    pub plain : KeepsPlain old new
    pub counts : KeepsCounts old new
    pub misses : KeepsMisses old new

  pub record KeepsAllButLedger (old new : SeatCache T H P g h) : Type 0 where
    pub fetches : fetches_of new ≡ fetches_of old
    pub fails : seat_fails new ≡ seat_fails old
    pub lists : KeepsLists old new

module _ {H P : Type 0} {h : _} where
  -- the pass is of this clock, in the phase that it was in, and has seen what it had; what its host put into it is as it was
  pub record KeepsPass (clock : Clock H P) (old new : Pass H P h) : Type 0 where
    pub here : IsPassOf clock new
    pub phase : (holder new).phase ≡ (holder old).phase
    pub seen : (holder old).seen ≤ (holder new).seen
    pub host : (view new).host ≡ (view old).host
