-- Why no keg is made.
use Rattle.std.specs.Prelude.{◌≡◌, ℕ, ◌<◌, ◌≤◌, ◌⊎◌}
use Rattle.uma_slabs.specs.declared.places.KegRefused.{KegRefused}
use Rattle.uma_slabs.specs.declared.places.KegRefused.TheVariants.{Size, Slabs, Memory}

-- the size of an item that a keg takes, in bytes (own)
pub record IsItemSize (size : ℕ) : Type 0 where
  pub low : 8 ≤ size
  pub high : size ≤ 4096

-- how many slabs a keg may have (own)
pub record IsSlabCount (slabs : ℕ) : Type 0 where
  pub low : 1 ≤ slabs
  pub high : slabs ≤ 1024

-- The size is refused where it is out of range, then the slabs where they are; memory is wanted for good ones alone.
abbrev pub IsRefusedFor : ℕ → ℕ → KegRefused → Type 0
IsRefusedFor size slabs (Size refused) = (refused ≡ size) × (size < 8 ⊎ 4096 < size)
IsRefusedFor size slabs (Slabs refused) = (refused ≡ slabs) × IsItemSize size × (slabs < 1 ⊎ 1024 < slabs)
IsRefusedFor size slabs Memory = IsItemSize size × IsSlabCount slabs
