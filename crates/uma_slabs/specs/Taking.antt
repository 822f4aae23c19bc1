-- The taking rule of a keg.
use Rattle.std.specs.Prelude.{◌≡◌, ℕ, ◌/◌, ◌<◌, ◌⊎◌}
use Rattle.uma_slabs.specs.Places.{KegPlaces, IsFree, IsOut, KeepsOthers, KeepsSlabs}

-- the slab of this index has a used and a free place
pub record IsPartlyUsed (k : KegPlaces) (index : ℕ) : Type 0 where
  pub used : (n : ℕ) × (n / k.per_slab ≡ index) × IsOut k n
  pub free : (n : ℕ) × (n / k.per_slab ≡ index) × IsFree k n

-- Number n, which is taken, is the least free place of its slab. That slab is partly used, or no slab is (uma(9) takes
-- from partly used slabs first, and the lowest free place of a slab). The number is out, and all else stays.
-- Which of several partly used slabs is taken from is free to choose.
pub record TakesPlaces (old : KegPlaces) (n : ℕ) (new : KegPlaces) : Type 0 where
  pub free : IsFree old n
  pub least : (lower : ℕ) → lower < n → lower / old.per_slab ≡ n / old.per_slab → IsFree old lower → ⊥
  pub preferred : IsPartlyUsed old (n / old.per_slab) ⊎ ((index : ℕ) → IsPartlyUsed old index → ⊥)
  pub out : IsOut new n
  pub others : KeepsOthers old n new
  pub slabs : KeepsSlabs old new
