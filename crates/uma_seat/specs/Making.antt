-- Own: what the making of a seat needs, and what comes of it.
use Rattle.std.specs.Prelude.{◌≡◌, ℕ, ◌≤◌, List, [], length, Result, Err, IfOk, IfErr}
use Rattle.deed_book.specs.declared.fail_book.FailShare.{FailShare}
use Rattle.deed_book.specs.FailShare.{share_table, causes_in}
use Rattle.inbox.specs.declared.inbox.Port.{Port}
use Rattle.uma_bucket.specs.declared.shelved.InboxKey.{InboxKey}
use Rattle.uma_bucket.specs.declared.bucket.BucketRefused.{BucketRefused}
use Rattle.uma_bucket.specs.declared.bucket.BucketRefused.TheVariants.{Size}
use Rattle.uma_bucket.specs.declared.shelved.Shelved.{Shelved}
use Rattle.uma_bucket.specs.Bucket.{IsOutOfRange, BucketIsRefused}
use Rattle.uma_seat.specs.declared.seat.SeatCache.{SeatCache}
use Rattle.uma_seat.specs.declared.seating.Seating.{Seating}
use Rattle.uma_seat.specs.Seat.{IsNewSeat, ports_of}

module _ {T H P : Type 0} {g h : _} where
  -- the size is in its range, the share lists nothing, and there is one port for each domain
  pub record CanMake (size : ℕ) (seating : Seating H P) (share : FailShare) (given : List (Port (Shelved T H P g h) (InboxKey H P))) : Type 0 where
    pub least : 4 ≤ size
    pub most : size ≤ 64
    pub listed : causes_in share ≡ []
    pub ports : length given ≡ seating.domains

  -- The seat is new, with these ports. It is refused for the size, or else for memory.
  pub record MakesSeat (size : ℕ) (seating : Seating H P) (share misses : FailShare) (given : List (Port (Shelved T H P g h) (InboxKey H P))) (result : Result (SeatCache T H P g h) BucketRefused) : Type 0 where
    pub made : IfOk result (IsNewSeat size seating (share_table share) misses)
    pub ports : IfOk result (λ seat. ports_of seat ≡ given)
    pub out_of_range : IsOutOfRange size → result ≡ Err (Size size)
    pub err : IfErr result (BucketIsRefused size)
