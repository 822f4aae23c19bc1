-- Own: what goes back to the keg of what a domain gave up.
use Rattle.std.specs.Prelude.{◌≡◌, ℕ, ◌^◌, ◌-◌, List, length, min, sum_by}
use Rattle.std.specs.List.{All}
use Rattle.uma_life.specs.declared.states.Cached.{Cached}
use Rattle.uma_bucket.specs.declared.freed.Ripe.{Ripe as RipeBucket}
use Rattle.uma_bucket.specs.Bucket.{items_of}
use Rattle.uma_bucket.specs.Finished.{AreFinished}
use Rattle.uma_bucket.specs.Loose.{loose_items}
use Rattle.uma_bucket.specs.Ripe.{ripe_bucket, IsRipeAt}
use Rattle.uma_domain.specs.declared.trims.TakenBucket.{TakenBucket}
use Rattle.uma_domain.specs.declared.trims.TakenBucket.TheVariants.{Plain, Ripe}
use Rattle.uma_domain.specs.Listed.{IsPlainOf, IsLooseOf, plain_len, ripe_len}
use Rattle.uma_zone.specs.declared.zone.Zone.{Zone}
use Rattle.uma_zone.specs.KegStates.{GivesItems, GivesItem}
use Rattle.uma_zone.specs.Zone.{zone_home, zone_clock, zone_hooks}

-- a count that stands still at its type's end
abbrev pub counted : ℕ → ℕ
counted items = min items (2 ^ 64 - 1)

module _ {T H P : Type 0} {g h : _} where
  -- how many items a bucket has that a domain gave up
  abbrev pub bucket_len : TakenBucket T H P g h → ℕ
  bucket_len (Plain bucket) = plain_len bucket
  bucket_len (Ripe bucket) = ripe_len bucket

  -- how many items a domain gave up
  abbrev pub items_in : List (TakenBucket T H P g h) → ℕ
  items_in buckets = sum_by bucket_len buckets

module _ {T K H P : Type 0} {g k h : _} where
  -- A domain of the zone may have listed the bucket: it isn't empty, its items are at home in the zone, and its note is of the zone's clock.
  abbrev pub IsFromZone : Zone T K H P g k h → TakenBucket T H P g h → Type 0
  IsFromZone zone (Plain bucket) = IsPlainOf (zone_home zone) bucket
  IsFromZone zone (Ripe bucket) = IsLooseOf (zone_home zone) (ripe_bucket bucket) × IsRipeAt (zone_clock zone) bucket

  -- each item of a ripe bucket passed dtor, by the zone's hooks, and all came back to the zone's keg
  pub record GivesRipe (zone : Zone T K H P g k h) (ripe : RipeBucket T H P g h) : Type 0 where
    pub items : List (Cached T g)
    pub finished : AreFinished (k.leaves_dtor (zone_hooks zone)) (loose_items (ripe_bucket ripe)) items
    pub given : GivesItems zone items

  -- all items of a bucket that a domain gave up came back to the zone's keg
  abbrev pub GivesBucket : Zone T K H P g k h → TakenBucket T H P g h → Type 0
  GivesBucket zone (Plain bucket) = GivesItems zone (items_of bucket)
  GivesBucket zone (Ripe bucket) = GivesRipe zone bucket

  -- all items of each bucket of these takes came back to the zone's keg
  abbrev pub AreGiven : Zone T K H P g k h → List (List (TakenBucket T H P g h)) → Type 0
  AreGiven zone takes = All (All (GivesBucket zone)) takes

  -- so many items came back to the zone's keg, one by one
  pub record GivesEach (zone : Zone T K H P g k h) (count : ℕ) : Type 0 where
    pub items : List (Cached T g)
    pub as_many : count ≡ length items
    pub given : All (GivesItem zone) items
