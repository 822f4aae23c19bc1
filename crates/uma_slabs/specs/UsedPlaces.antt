-- Own: the slabs of a keg are alike.
use Rattle.std.specs.Prelude.{◌≡◌, ℕ, Some, length}
use Rattle.uma_slabs.specs.Places.{KegPlaces, Slab, slab_at}

-- there is an index for each slab that may be in, and each slab that is in has so many places
pub record AreEven (k : KegPlaces) : Type 0 where
  pub indices : length k.slabs ≡ k.cap
  pub places : (index : ℕ) (slab : Slab) → slab_at k index ≡ Some slab → length slab.free ≡ k.per_slab
