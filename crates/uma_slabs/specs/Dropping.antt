-- The giving up of a keg's slabs.
use Rattle.std.specs.Prelude.{◌≡◌, ◌≢◌, ℕ, ◌-◌, ◌/◌, ◌^◌, ◌<◌, None}
use Rattle.uma_slabs.specs.Places.{KegPlaces, domain_at, place_at, IsIn, IsFree}

-- the slab of this index is in, and each of its places is free
pub record IsWhollyFree (k : KegPlaces) (index : ℕ) : Type 0 where
  pub is_in : IsIn k index
  pub free : (n : ℕ) → n / k.per_slab ≡ index → IsFree k n

-- no slab is wholly free
abbrev pub HasNoneWhollyFree : KegPlaces → Type 0
HasNoneWhollyFree k = (index : ℕ) → IsWhollyFree k index → ⊥

-- so many slabs were ever brought in that none is given up any more (own)
abbrev pub IsUsedUp : KegPlaces → Type 0
IsUsedUp k = 2 ^ 40 - k.cap < k.made

-- The wholly free slab of greatest index is given up (uma(9) frees wholly free slabs; the greatest index first is own).
-- It isn't in any more, and all else stays.
pub record Drops (old : KegPlaces) (index : ℕ) (new : KegPlaces) : Type 0 where
  pub within : index < old.cap
  pub whole : IsWhollyFree old index
  pub greatest : (other : ℕ) → index < other → IsWhollyFree old other → ⊥
  pub absent : domain_at new index ≡ None
  pub nowhere : (n : ℕ) → n / old.per_slab ≡ index → place_at new n ≡ None
  pub other_slabs : (other : ℕ) → other ≢ index → domain_at new other ≡ domain_at old other
  pub other_places : (n : ℕ) → n / old.per_slab ≢ index → place_at new n ≡ place_at old n
  pub per_slab : new.per_slab ≡ old.per_slab
  pub cap : new.cap ≡ old.cap
  pub made : new.made ≡ old.made
