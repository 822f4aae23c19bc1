-- Own: what contracts see of the spare buckets and the shelf of a seat.
use Rattle.std.specs.Prelude.{◌≡◌, ℕ, ◌+◌, ◌<◌, ◌≤◌, List, [], ◌∷◌, ◌++◌, length, map, Option, IfSome, IfNone}
use Rattle.uma_bucket.specs.declared.bucket.Bucket.{Bucket}
use Rattle.uma_bucket.specs.declared.shelved.Shelved.{Shelved}
use Rattle.uma_bucket.specs.Bucket.{items_of, size_of}
use Rattle.uma_bucket.specs.Shelved.{count_of}
use Rattle.uma_seat.specs.declared.rack.Rack.{Rack}

-- so many spares there are, which with the shelf are at most two
pub record CountsSpares {X : Type 0} (spares : List ℕ) (shelf : List X) (count : ℕ) : Type 0 where
  pub spare : count ≡ length spares
  pub most : count + length shelf ≤ 2

module _ {T H P : Type 0} {g h : _} where
  -- for each spare how many items it has room for
  abbrev pub spares_in : Rack T H P g h → List ℕ
  spares_in rack = map size_of rack.spares.items

  -- the full buckets, the oldest first
  abbrev pub shelf_in : Rack T H P g h → List (Shelved T H P g h)
  shelf_in rack = rack.shelf.items

  -- these are its spares, and the shelf is empty
  pub record IsRackOf (given : List ℕ) (rack : Rack T H P g h) : Type 0 where
    pub spares : spares_in rack ≡ given
    pub shelf : shelf_in rack ≡ []

  -- there is a place for the bucket, which is empty
  pub record CanTakeSpare (rack : Rack T H P g h) (bucket : Bucket T g) : Type 0 where
    pub place : length (spares_in rack) + length (shelf_in rack) < 2
    pub empty : items_of bucket ≡ []

  -- there is a place for the bucket, which isn't empty
  pub record CanTakeShelved (rack : Rack T H P g h) (shelved : Shelved T H P g h) : Type 0 where
    pub place : length (spares_in rack) + length (shelf_in rack) < 2
    pub filled : 0 < count_of shelved

  -- an empty spare is taken
  pub record TakesSpare (old : Rack T H P g h) (bucket : Bucket T g) (new : Rack T H P g h) : Type 0 where
    pub spares : spares_in old ≡ spares_in new ++ size_of bucket ∷ []
    pub empty : items_of bucket ≡ []
    pub shelf : shelf_in new ≡ shelf_in old

  -- the bucket is a spare more
  pub record PutsSpare (old : Rack T H P g h) (bucket : Bucket T g) (new : Rack T H P g h) : Type 0 where
    pub spares : spares_in new ≡ spares_in old ++ size_of bucket ∷ []
    pub shelf : shelf_in new ≡ shelf_in old

  -- the bucket is the newest on the shelf
  pub record PutsNewest (old : Rack T H P g h) (shelved : Shelved T H P g h) (new : Rack T H P g h) : Type 0 where
    pub shelf : shelf_in new ≡ shelf_in old ++ shelved ∷ []
    pub spares : spares_in new ≡ spares_in old

  -- the bucket is the oldest on the shelf
  pub record PutsOldest (old : Rack T H P g h) (shelved : Shelved T H P g h) (new : Rack T H P g h) : Type 0 where
    pub shelf : shelf_in new ≡ shelved ∷ shelf_in old
    pub spares : spares_in new ≡ spares_in old

  -- the oldest bucket is taken, which isn't empty; there is none exactly where the shelf is empty
  pub record TakesOldest (old : Rack T H P g h) (result : Option (Shelved T H P g h)) (new : Rack T H P g h) : Type 0 where
    pub oldest : IfSome result (λ shelved. shelf_in old ≡ shelved ∷ shelf_in new)
    pub filled : IfSome result (λ shelved. 0 < count_of shelved)
    pub none : IfNone result (shelf_in old ≡ [])
    pub unchanged : IfNone result (shelf_in new ≡ [])
    pub spares : spares_in new ≡ spares_in old
