-- Own: what a keg's own contracts see of its items at home.
use Rattle.std.specs.Prelude.{◌≡◌, ◌≢◌, ◌<◌, ◌/◌, ◌%◌, ℕ, Bool, true, false, Option, Some, None, IfSome, IfNone, is_some, length, vec_len}
use Rattle.uma_life.specs.declared.states.Stored.{Stored}
use Rattle.uma_keg.specs.declared.home_items.HomeItems.{HomeItems}
use Rattle.uma_keg.specs.declared.slabs.SlabItems.{SlabItems}
use Rattle.uma_keg.specs.SlabItems.{places_of_slab}
use Rattle.uma_keg.specs.HomeLists.{slab_items_in, item_in, item_on}

-- how many slabs there is room for
abbrev pub slab_room : {T : Type 0} {g : _} → HomeItems T g → ℕ
slab_room home_items = vec_len home_items.slabs

-- how many places each slab has
abbrev pub places_each : {T : Type 0} {g : _} → HomeItems T g → ℕ
places_each home_items = home_items.per_slab

-- whether the slab of this index has its list of items
abbrev pub has_slab : {T : Type 0} {g : _} → HomeItems T g → ℕ → Bool
has_slab home_items index = is_some (slab_items_in home_items.slabs.items index)

-- the item of this number, if it is at home
abbrev pub item_at : {T : Type 0} {g : _} → HomeItems T g → ℕ → Option (Stored T g)
item_at home_items n = item_in home_items.per_slab home_items.slabs.items n

-- there is room for so many slabs of so many places, and no item is there
pub record IsNewHome {T : Type 0} {g : _} (cap per_slab : ℕ) (home_items : HomeItems T g) : Type 0 where
  pub count : slab_room home_items ≡ cap
  pub places : places_each home_items ≡ per_slab
  pub none : (index : ℕ) → has_slab home_items index ≡ false
  pub no_item : (n : ℕ) → item_at home_items n ≡ None

-- the item of a number is taken, if it was there, and no other
pub record TakesHome {T : Type 0} {g : _} (old : HomeItems T g) (no : ℕ) (taken : Option (Stored T g)) (new : HomeItems T g) : Type 0 where
  pub item : taken ≡ item_at old no
  pub gone : item_at new no ≡ None
  pub others : (n : ℕ) → n ≢ no → item_at new n ≡ item_at old n
  pub home_items : (index : ℕ) → has_slab new index ≡ has_slab old index
  pub count : slab_room new ≡ slab_room old
  pub places : places_each new ≡ places_each old

-- the slab of a number is there, and the number's item is not
pub record MayPutHome {T : Type 0} {g : _} (home_items : HomeItems T g) (no : ℕ) : Type 0 where
  pub slab_items : has_slab home_items (no / places_each home_items) ≡ true
  pub gone : item_at home_items no ≡ None

-- an item is put where its number's place is, and no other
pub record PutsHome {T : Type 0} {g : _} (old : HomeItems T g) (no : ℕ) (put : Stored T g) (new : HomeItems T g) : Type 0 where
  pub item : item_at new no ≡ Some put
  pub others : (n : ℕ) → n ≢ no → item_at new n ≡ item_at old n
  pub home_items : (index : ℕ) → has_slab new index ≡ has_slab old index
  pub count : slab_room new ≡ slab_room old
  pub places : places_each new ≡ places_each old

-- the least index that has no list of items, or None where each has one
pub record FindsGap {T : Type 0} {g : _} (home_items : HomeItems T g) (found : Option ℕ) : Type 0 where
  pub gap : IfSome found (λ index. (has_slab home_items index ≡ false) × (index < slab_room home_items))
  pub least : IfSome found (λ index. (lower : ℕ) → lower < index → has_slab home_items lower ≡ true)
  pub none : IfNone found ((index : ℕ) → index < slab_room home_items → has_slab home_items index ≡ true)

-- the index has no list of items, and this one has as many places as each
pub record MayAddSlab {T : Type 0} {g : _} (home_items : HomeItems T g) (index : ℕ) (slab_items : SlabItems T g) : Type 0 where
  pub within : index < slab_room home_items
  pub gap : has_slab home_items index ≡ false
  pub whole : length (places_of_slab slab_items) ≡ places_each home_items

-- the items of a new slab were added
pub record IsAdded {T : Type 0} {g : _} (old new : HomeItems T g) (index : ℕ) (slab_items : SlabItems T g) : Type 0 where
  pub items : (n : ℕ) → n / places_each old ≡ index → item_at new n ≡ item_on (n % places_each old) slab_items
  pub others : (n : ℕ) → n / places_each old ≢ index → item_at new n ≡ item_at old n
  pub there : has_slab new index ≡ true
  pub home_items : (other : ℕ) → other ≢ index → has_slab new other ≡ has_slab old other
  pub count : slab_room new ≡ slab_room old
  pub places : places_each new ≡ places_each old

-- the items of a slab were taken away, and are these
pub record IsRemoved {T : Type 0} {g : _} (old new : HomeItems T g) (index : ℕ) (slab_items : SlabItems T g) : Type 0 where
  pub whole : length (places_of_slab slab_items) ≡ places_each old
  pub items : (n : ℕ) → n / places_each old ≡ index → item_at old n ≡ item_on (n % places_each old) slab_items
  pub gone : (n : ℕ) → n / places_each old ≡ index → item_at new n ≡ None
  pub others : (n : ℕ) → n / places_each old ≢ index → item_at new n ≡ item_at old n
  pub no_slab : has_slab new index ≡ false
  pub home_items : (other : ℕ) → other ≢ index → has_slab new other ≡ has_slab old other
  pub count : slab_room new ≡ slab_room old
  pub places : places_each new ≡ places_each old
