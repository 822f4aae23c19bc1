-- Own: what calls on the shelf and the spares of a seat need, and what they do.
use Rattle.std.specs.Prelude.{◌≡◌, ◌<◌, ◌≤◌, ◌+◌, [], ◌∷◌, ◌++◌, length, Option, Result, IfSome, IfNone, OnOk, OnErr}
use Rattle.uma_bucket.specs.declared.bucket.Bucket.{Bucket}
use Rattle.uma_bucket.specs.declared.shelved.Shelved.{Shelved}
use Rattle.uma_bucket.specs.Shelved.{count_of, IsShelvedAt, IsShelvedOf}
use Rattle.uma_seat.specs.declared.seat.SeatCache.{SeatCache}
use Rattle.uma_seat.specs.Seat.{seat_home, seat_clock, seat_size, top_bucket, top_of, spares_of, shelf_of, HasPlace, IsSameSeat, KeepsTop, KeepsPlain, KeepsFreed, KeepsRack, KeepsCounts, KeepsMisses, KeepsPorts}
use Rattle.uma_seat.specs.Frames.{KeepsAllButRack}

module _ {T H P : Type 0} {g h : _} where
  -- The oldest bucket is taken from the shelf, and may be put there again; there is none exactly where the shelf is empty.
  pub record TakesShelf (old : SeatCache T H P g h) (result : Option (Shelved T H P g h)) (new : SeatCache T H P g h) : Type 0 where
    pub oldest : IfSome result (λ shelved. shelf_of old ≡ shelved ∷ shelf_of new)
    pub filled : IfSome result (λ shelved. 0 < count_of shelved)
    pub home : IfSome result (IsShelvedAt (seat_home old))
    pub clock : IfSome result (IsShelvedOf (seat_clock old))
    pub place : IfSome result (λ _. HasPlace new)
    pub none : IfNone result (shelf_of old ≡ [])
    pub unchanged : IfNone result (shelf_of new ≡ [])
    pub spares : spares_of new ≡ spares_of old
    pub same : IsSameSeat old new
    pub ports : KeepsPorts old new
    pub top : KeepsTop old new
    pub plain : KeepsPlain old new
    pub freed : KeepsFreed old new
    pub counts : KeepsCounts old new
    pub misses : KeepsMisses old new

  -- there is a place, and the bucket isn't empty, and is of this seat's home and clock
  pub record CanPutShelf (old : SeatCache T H P g h) (shelved : Shelved T H P g h) : Type 0 where
    pub place : HasPlace old
    pub filled : 0 < count_of shelved
    pub home : IsShelvedAt (seat_home old) shelved
    pub clock : IsShelvedOf (seat_clock old) shelved

  -- the bucket is the oldest on the shelf
  pub record PutsShelf (old : SeatCache T H P g h) (shelved : Shelved T H P g h) (new : SeatCache T H P g h) : Type 0 where
    pub oldest : shelf_of new ≡ shelved ∷ shelf_of old
    pub spares : spares_of new ≡ spares_of old
    pub same : IsSameSeat old new
    pub ports : KeepsPorts old new
    pub top : KeepsTop old new
    pub plain : KeepsPlain old new
    pub freed : KeepsFreed old new
    pub counts : KeepsCounts old new
    pub misses : KeepsMisses old new

  -- The bucket is the allocation bucket. The empty one that was is a spare where there is a place for it.
  pub record Refills (old : SeatCache T H P g h) (bucket : Bucket T g) (new : SeatCache T H P g h) : Type 0 where
    pub top : top_bucket new ≡ bucket
    pub spare : HasPlace old → spares_of new ≡ spares_of old ++ (top_of old).room ∷ []
    pub no_place : 2 ≤ length (spares_of old) + length (shelf_of old) → spares_of new ≡ spares_of old
    pub shelf : shelf_of new ≡ shelf_of old
    pub same : IsSameSeat old new
    pub ports : KeepsPorts old new
    pub plain : KeepsPlain old new
    pub freed : KeepsFreed old new
    pub counts : KeepsCounts old new
    pub misses : KeepsMisses old new

  -- there is one spare more, or no memory for one
  pub record AddsSpare {E : Type 0} (old : SeatCache T H P g h) (result : Result (Unit {0}) E) (new : SeatCache T H P g h) : Type 0 where
    pub added : OnOk result (spares_of new ≡ spares_of old ++ seat_size old ∷ [])
    pub err : OnErr result (KeepsRack old new)
    pub shelf : shelf_of new ≡ shelf_of old
    pub frame : KeepsAllButRack old new
