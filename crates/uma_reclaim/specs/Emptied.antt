-- Own: what is given back bucket by bucket, and how a seat is emptied item by item.
use Rattle.std.specs.Prelude.{◌≡◌, ◌+◌, ℕ, List, [], fold}
use Rattle.std.specs.List.{All}
use Rattle.smr_clock.specs.declared.clock.Clock.{Clock}
use Rattle.smr_clock.specs.declared.pass.Pass.{Pass}
use Rattle.smr_clock.specs.Belongs.{view}
use Rattle.uma_life.specs.declared.states.Cached.{Cached}
use Rattle.uma_life.specs.Cached.{cached_ticket}
use Rattle.uma_bucket.specs.Home.{IsHome}
use Rattle.uma_domain.specs.declared.trims.TakenBucket.{TakenBucket}
use Rattle.uma_seat.specs.declared.seat.SeatCache.{SeatCache}
use Rattle.uma_seat.specs.Seat.{usable_of, HasNoCross}
use Rattle.uma_zone.specs.declared.zone.Zone.{Zone}
use Rattle.uma_zone.specs.Frames.{GoesOn, KeepsButUsable}
use Rattle.uma_zone.specs.Zone.{zone_home, IsSeatOf}
use Rattle.uma_reclaim.specs.Cached.{cached_in}
use Rattle.uma_reclaim.specs.Given.{GivesBucket, GivesEach, bucket_len, items_in, counted}
use Rattle.uma_reclaim.specs.Told.{notes_of, notes_in}

-- the seat had neither a usable nor a cross item, and has none
pub record HasNoCached {T H P : Type 0} {g h : _} (old new : SeatCache T H P g h) : Type 0 where
  pub none : cached_in old ≡ 0
  pub no_usable : usable_of new ≡ []
  pub no_cross : HasNoCross new

module _ {T K H P : Type 0} {g k h : _} where
  -- all items of the bucket came back, so many; the pass went on, and its host's part took in the bucket's note
  pub record GivesOne (zone : Zone T K H P g k h) (merged : P → P → P) (by : Clock H P) (bucket : TakenBucket T H P g h) (p : Pass H P h) (answer : ℕ) (p' : Pass H P h) : Type 0 where
    pub pass : GoesOn by p p'
    pub told : (view p').host ≡ fold merged (view p).host (notes_of bucket)
    pub count : answer ≡ bucket_len bucket
    pub given : GivesBucket zone bucket

  -- so did those of each bucket of a list, and the notes in their order
  pub record GivesTaken (zone : Zone T K H P g k h) (merged : P → P → P) (by : Clock H P) (buckets : List (TakenBucket T H P g h)) (p : Pass H P h) (answer : ℕ) (p' : Pass H P h) : Type 0 where
    pub pass : GoesOn by p p'
    pub told : (view p').host ≡ fold merged (view p).host (notes_in buckets)
    pub count : answer ≡ counted (items_in buckets)
    pub given : All (GivesBucket zone) buckets

  -- an item was taken that is at home in the zone; the seat has one fewer
  pub record TakesCached (zone : Zone T K H P g k h) (old : SeatCache T H P g h) (item : Cached T g) (new : SeatCache T H P g h) : Type 0 where
    pub home : IsHome (zone_home zone) (cached_ticket item)
    pub one : cached_in new + 1 ≡ cached_in old

  -- As many items came back as the seat had usable and cross ones. It has none of either, is of the zone still, and all else of it stays.
  pub record EmptiesSeat (zone : Zone T K H P g k h) (old : SeatCache T H P g h) (answer : ℕ) (new : SeatCache T H P g h) : Type 0 where
    pub count : answer ≡ counted (cached_in old)
    pub given : GivesEach zone (cached_in old)
    pub no_usable : usable_of new ≡ []
    pub no_cross : HasNoCross new
    pub seat : IsSeatOf zone new
    pub kept : KeepsButUsable old new
