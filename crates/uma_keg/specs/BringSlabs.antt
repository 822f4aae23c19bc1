-- How a keg brings in as many slabs as a fetch wants. That a keg whose free items are used up takes a new slab is FreeBSD's uma(9); that slabs are brought in until some item is free beyond the reserve, and at the least indices, is own.
use Rattle.std.specs.Prelude.{◌≡◌, ◌≤◌, ◌<◌, ◌+◌, ◌*◌, ◌/◌, ◌↔◌, ℕ, Bool, IsTrue, Some, None}
use Rattle.std.specs.Option.{IsSomeAnd}
use Rattle.uma_keg.specs.declared.fetch.FetchRefused.{FetchRefused}
use Rattle.uma_keg.specs.declared.keg.Keg.{Keg}
use Rattle.uma_slabs.specs.Places.{KegPlaces, IsIn, IsFree, place_at, domain_at, slab_count, free_count, out_count}
use Rattle.uma_keg.specs.NewItems.{IsNewItem}
use Rattle.uma_keg.specs.BringSlab.{AcceptsNumber, RefusesSlab}
use Rattle.uma_keg.specs.Fetch.{Found, IsEnough}
use Rattle.uma_keg.specs.Keg.{places_in, stored_in, buried_in, out_in, limit_in, reserve_in, IsSameKeg}

-- what a fetch of a zone finds in a keg
abbrev pub found_in : {T K : Type 0} {g : _} {h : _} → Keg T K g h → ℕ → Found
found_in keg zone = record {
  per_slab = (places_in keg).per_slab;
  reserve = reserve_in keg;
  out = out_in keg zone;
  limit = limit_in keg zone;
  free = free_count (places_in keg);
  slabs = slab_count (places_in keg);
  cap = (places_in keg).cap;
  made = (places_in keg).made;
}

-- the slab of this index is in, and wasn't before
pub record IsNewSlab (old new : KegPlaces) (index : ℕ) : Type 0 where
  pub absent : domain_at old index ≡ None
  pub is_in : IsIn new index

-- so many slabs more are in, and all their places are free
pub record CountsSlabs (old : KegPlaces) (count : ℕ) (new : KegPlaces) : Type 0 where
  pub slabs : slab_count new ≡ slab_count old + count
  pub free : free_count new ≡ free_count old + count * old.per_slab
  pub out : out_count new ≡ out_count old
  pub made : new.made ≡ old.made + count
  pub per_slab : new.per_slab ≡ old.per_slab
  pub cap : new.cap ≡ old.cap

-- So many slabs of this domain are in, each at the least index that wasn't, and their new items are at home, which keg_init took. All else stays.
pub record BringsSlabs {T K : Type 0} {g : _} {h : _} (old : Keg T K g h) (domain count : ℕ) (new : Keg T K g h) : Type 0 where
  pub counts : CountsSlabs (places_in old) count (places_in new)
  pub domains : (index : ℕ) → IsNewSlab (places_in old) (places_in new) index → domain_at (places_in new) index ≡ Some domain
  pub least : (index lower : ℕ) → IsNewSlab (places_in old) (places_in new) index → lower < index → IsIn (places_in new) lower
  pub free : (n : ℕ) → IsNewSlab (places_in old) (places_in new) (n / (places_in old).per_slab) → IsFree (places_in new) n
  pub items : (n : ℕ) → IsNewSlab (places_in old) (places_in new) (n / (places_in old).per_slab) → IsSomeAnd (stored_in new n) (IsNewItem n)
  pub accepted : (n : ℕ) → IsNewSlab (places_in old) (places_in new) (n / (places_in old).per_slab) → AcceptsNumber old n
  pub other_slabs : (index : ℕ) → (IsNewSlab (places_in old) (places_in new) index → ⊥) → domain_at (places_in new) index ≡ domain_at (places_in old) index
  pub other_places : (n : ℕ) → (IsNewSlab (places_in old) (places_in new) (n / (places_in old).per_slab) → ⊥) → place_at (places_in new) n ≡ place_at (places_in old) n
  pub other_items : (n : ℕ) → (IsNewSlab (places_in old) (places_in new) (n / (places_in old).per_slab) → ⊥) → stored_in new n ≡ stored_in old n
  pub buried : buried_in new ≡ buried_in old

-- Some slabs were in, fewer than are enough for a fetch, where the next one was refused; they stay.
pub record StopsAtSlab {T K : Type 0} {g : _} {h : _} (old : Keg T K g h) (domain : ℕ) (why : FetchRefused) (new : Keg T K g h) : Type 0 where
  pub slabs : ℕ
  pub left : Keg T K g h
  pub brings : BringsSlabs old domain slabs left
  pub same : IsSameKeg old left
  pub fewer : (zone fewer : ℕ) → fewer ≤ slabs → IsEnough (found_in old zone) fewer → ⊥
  pub refused : RefusesSlab left (buried_in new) why
  pub places : places_in new ≡ places_in left
  pub stored : (n : ℕ) → stored_in new n ≡ stored_in left n

-- whether no item is free beyond the reserve, and a further slab may be in
pub record WantsSlab {T K : Type 0} {g : _} {h : _} (keg : Keg T K g h) (answer : Bool) : Type 0 where
  pub wants : IsTrue answer ↔ ((free_count (places_in keg) ≤ reserve_in keg) × (slab_count (places_in keg) < (places_in keg).cap))
  pub within : slab_count (places_in keg) ≤ (places_in keg).cap
