-- Own: what a keg's own contracts see of the items of one slab.
use Rattle.std.specs.Prelude.{◌≡◌, ℕ, List, Option, Some, None, slice_get, slice_set}
use Rattle.uma_life.specs.declared.states.Stored.{Stored}
use Rattle.uma_keg.specs.declared.slabs.SlabItems.{SlabItems}

-- for each place its item, or None where that is outside
abbrev pub places_of_slab : {T : Type 0} {g : _} → SlabItems T g → List (Option (Stored T g))
places_of_slab slab_items = slab_items.places.items

-- what was at a place is taken
pub record TakesPlace {T : Type 0} {g : _} (old : SlabItems T g) (place : ℕ) (taken : Option (Stored T g)) (new : SlabItems T g) : Type 0 where
  pub item : slice_get (places_of_slab old) place ≡ Some taken
  pub items : places_of_slab new ≡ slice_set (places_of_slab old) place None
