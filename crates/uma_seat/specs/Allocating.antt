-- Own: what calls that take items from a seat, or put them back, do to it.
use Rattle.std.specs.Prelude.{◌≡◌, ◌<◌, [], ◌∷◌, ◌++◌, length, Option, IfSome, IfNone}
use Rattle.uma_life.specs.declared.states.Cached.{Cached}
use Rattle.uma_life.specs.Cached.{cached_ticket}
use Rattle.uma_bucket.specs.Home.{IsHome, AreHome}
use Rattle.uma_seat.specs.declared.seat.SeatCache.{SeatCache}
use Rattle.uma_seat.specs.Stack.{with_item}
use Rattle.uma_seat.specs.Seat.{seat_home, top_of, top_tickets, plain_of, usable_of, top_ready, plain_ready, Pops, TakesCross, HasNoCross, IsSameSeat, KeepsTop, KeepsPlain, KeepsFreed, KeepsRack, KeepsCounts, KeepsMisses, KeepsPorts}
use Rattle.uma_seat.specs.Frames.{KeepsAllButTop, KeepsAllButUsable}

module _ {T H P : Type 0} {g h : _} where
  -- The usable item that was put last is taken, after an exchange of an empty allocation bucket; there is none exactly where no item is usable.
  pub record TakesUsable (old : SeatCache T H P g h) (result : Option (Cached T g)) (new : SeatCache T H P g h) : Type 0 where
    pub last : IfSome result (λ item. usable_of old ≡ usable_of new ++ item ∷ [])
    pub none : IfNone result (usable_of old ≡ [])
    pub unchanged : IfNone result (usable_of new ≡ [])
    pub taken : Pops (top_ready old) result (top_of new)
    pub room : IfSome result (λ _. length (top_of new).items < (top_of new).room)
    pub plain : plain_of new ≡ plain_ready old
    pub home : AreHome (seat_home old) (top_tickets old) → AreHome (seat_home new) (top_tickets new) × IfSome result (λ item. IsHome (seat_home old) (cached_ticket item))
    pub same : IsSameSeat old new
    pub ports : KeepsPorts old new
    pub freed : KeepsFreed old new
    pub rack : KeepsRack old new
    pub counts : KeepsCounts old new
    pub misses : KeepsMisses old new

  -- The allocation bucket is as an allocation takes from it.
  pub record ReadiesTop (old new : SeatCache T H P g h) : Type 0 where
    pub top : top_of new ≡ top_ready old
    pub plain : plain_of new ≡ plain_ready old
    pub home : AreHome (seat_home old) (top_tickets old) → AreHome (seat_home new) (top_tickets new)
    pub frame : KeepsAllButUsable old new

  -- The item is on top of the allocation bucket.
  pub record PutsBack (old : SeatCache T H P g h) (item : Cached T g) (new : SeatCache T H P g h) : Type 0 where
    pub top : top_of new ≡ with_item (top_of old) item
    pub home : AreHome (seat_home old) (top_tickets old) → IsHome (seat_home old) (cached_ticket item) → AreHome (seat_home new) (top_tickets new)
    pub frame : KeepsAllButTop old new

  -- An item of another domain is taken; there is none exactly where no bucket of another domain has one.
  pub record TakesOther (old : SeatCache T H P g h) (result : Option (Cached T g)) (new : SeatCache T H P g h) : Type 0 where
    pub taken : IfSome result (λ item. TakesCross old item new)
    pub home : IfSome result (λ item. IsHome (seat_home old) (cached_ticket item))
    pub none : IfNone result (HasNoCross old)
    pub unchanged : IfNone result (KeepsPlain old new)
    pub same : IsSameSeat old new
    pub ports : KeepsPorts old new
    pub top : KeepsTop old new
    pub freed : KeepsFreed old new
    pub rack : KeepsRack old new
    pub counts : KeepsCounts old new
    pub misses : KeepsMisses old new
