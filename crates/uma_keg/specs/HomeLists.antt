-- Own: the items of a keg's slabs by index, and their items by number.
use Rattle.std.specs.Prelude.{◌≡◌, ◌/◌, ◌%◌, ℕ, List, Option, Some, None, length, option_and_then, slice_index_or}
use Rattle.uma_life.specs.declared.states.Stored.{Stored}
use Rattle.uma_keg.specs.declared.slabs.SlabItems.{SlabItems}
use Rattle.uma_keg.specs.SlabItems.{places_of_slab}

-- the item of a place, if it is there
abbrev pub item_on : {T : Type 0} {g : _} → ℕ → SlabItems T g → Option (Stored T g)
item_on place slab_items = slice_index_or (places_of_slab slab_items) place None

-- the items of the slab of an index, if there is one
abbrev pub slab_items_in : {T : Type 0} {g : _} → List (Option (SlabItems T g)) → ℕ → Option (SlabItems T g)
slab_items_in slabs index = slice_index_or slabs index None

-- the item of a number, if it is there, where each slab has so many places
unfoldable pub item_in : {T : Type 0} {g : _} → ℕ → List (Option (SlabItems T g)) → ℕ → Option (Stored T g)
item_in per_slab slabs n = option_and_then (item_on (n % per_slab)) (slab_items_in slabs (n / per_slab))

-- each slab has so many places
pub record AreWhole {T : Type 0} {g : _} (per_slab : ℕ) (slabs : List (Option (SlabItems T g))) : Type 0 where
  pub each : (index : ℕ) (slab_items : SlabItems T g) → slab_items_in slabs index ≡ Some slab_items → length (places_of_slab slab_items) ≡ per_slab
