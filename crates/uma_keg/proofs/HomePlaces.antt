-- The items of a keg that are at home, where one place of one slab changes.
use Rattle.std.proofs.Common.{◌≡◌, ◌≢◌, ◌≤◌, ◌<◌, ◌/◌, ◌%◌, ℕ, true, List, Option, Some, None, length, replicate, get_or, set, cond, count_by, is_some, is_none, false, arith, inl, inr, refl, sym, ap, ◌∙◌}
use Rattle.std.specs.List.{slice_get, position}
use Rattle.std.proofs.lemmas.Bool.{cases_eq, cases_lt}
use Rattle.std.proofs.Math.Nat.{mod-lt}
use Rattle.std.proofs.lemmas.List.Quantifiers.{position-Some}
use Rattle.std.proofs.lemmas.List.Sums.{get_or-le-sum_by}
use Rattle.uma_slabs.proofs.Marks.{position_counted}
use Rattle.std.proofs.lemmas.List.{get_or-set_same, get_or-set_other, get_or_default, get_or_past, get_or-replicate, length-replicate}
use Rattle.std.proofs.lemmas.Nat.{div-add-mod'}
use Rattle.std.proofs.lemmas.Option.{get_or_from_slice_get, slice_get-get_or}
use Rattle.uma_life.specs.declared.states.Stored.{Stored}
use Rattle.uma_keg.specs.declared.slabs.SlabItems.{SlabItems}
use Rattle.uma_keg.specs.SlabItems.{places_of_slab}
use Rattle.uma_keg.specs.HomeLists.{slab_items_in, item_on, item_in, AreWhole}

-- an element that was read is the one of the list
pub read : {X : Type 0} (xs : List X) (i : ℕ) (r d v : X) → i < length xs → r ≡ get_or xs i r → r ≡ v → get_or xs i d ≡ v
read xs i r d v within is value = get_or_default xs i d r within ∙ sym is ∙ value

-- where a slab is there, it is within the list
pub slab_items_within : {T : Type 0} {g : _} (slabs : List (Option (SlabItems T g))) (index : ℕ) → is_some (slab_items_in slabs index) ≡ true → index < length slabs
slab_items_within slabs index there = elim (cases_lt index (length slabs)) [ inl within ↦ within | inr past ↦ absurd (cc (ap is_some (get_or_past slabs index None past), there)) ]

pub item_of : {T : Type 0} {g : _} (p n : ℕ) (slabs : List (Option (SlabItems T g))) (slab_items : SlabItems T g) (r : Option (Stored T g)) → slab_items_in slabs (n / p) ≡ Some slab_items → slice_get (places_of_slab slab_items) (n % p) ≡ Some r → item_in p slabs n ≡ r
unfolding item_in
item_of p n slabs slab_items r in_keg is = rw (in_keg, get_or_from_slice_get (places_of_slab slab_items) (n % p) r None is) refl

pub no_item_of : {T : Type 0} {g : _} (p n : ℕ) (slabs : List (Option (SlabItems T g))) → slab_items_in slabs (n / p) ≡ None → item_in p slabs n ≡ None
unfolding item_in
no_item_of p n slabs in_keg = rw in_keg refl

-- the place that was changed has what was put there
pub item_put : {T : Type 0} {g : _} (p n : ℕ) (slabs : List (Option (SlabItems T g))) (old new : SlabItems T g) (v : Option (Stored T g)) → n / p < length slabs → n % p < length (places_of_slab old) → places_of_slab new ≡ set (places_of_slab old) (n % p) v → item_in p (set slabs (n / p) (Some new)) n ≡ v
unfolding item_in
item_put p n slabs old new v within place is = rw (get_or-set_same slabs (n / p) (Some new) None within, is, get_or-set_same (places_of_slab old) (n % p) v None place) refl

other_place : (p n m : ℕ) → m ≢ n → m / p ≡ n / p → m % p ≢ n % p
other_place p n m ne slab place = ne (sym (div-add-mod' m p) ∙ rw (slab, place) (div-add-mod' n p))

-- and all else has what it had
pub item_kept : {T : Type 0} {g : _} (p n : ℕ) (slabs : List (Option (SlabItems T g))) (old new : SlabItems T g) (v : Option (Stored T g)) → n / p < length slabs → slab_items_in slabs (n / p) ≡ Some old → places_of_slab new ≡ set (places_of_slab old) (n % p) v → (m : ℕ) → m ≢ n → item_in p (set slabs (n / p) (Some new)) m ≡ item_in p slabs m
unfolding item_in
item_kept p n slabs old new v within in_keg is m ne = elim (cases_eq (m / p) (n / p)) [
  | inl same ↦ rw (same, get_or-set_same slabs (n / p) (Some new) None within, in_keg, is, get_or-set_other (places_of_slab old) (n % p) (m % p) v None (other_place p n m ne same)) refl
  | inr other ↦ rw (get_or-set_other slabs (n / p) (m / p) (Some new) None other) refl
]

-- where an item is gone its place in the slab is empty
pub place_gone : {T : Type 0} {g : _} (p n : ℕ) (slabs : List (Option (SlabItems T g))) (slab_items : SlabItems T g) → 1 ≤ p → AreWhole p slabs → slab_items_in slabs (n / p) ≡ Some slab_items → item_in p slabs n ≡ None → slice_get (places_of_slab slab_items) (n % p) ≡ Some None
unfolding item_in
place_gone p n slabs slab_items some whole in_keg gone =
    let place : n % p < length (places_of_slab slab_items) = rw (whole.each (n / p) slab_items in_keg) (mod-lt n some) in
    let here : get_or (places_of_slab slab_items) (n % p) None ≡ None = rw in_keg at gone in
    slice_get-get_or (places_of_slab slab_items) (n % p) None place ∙ ap Some here

no_slab : {T : Type 0} {g : _} (cap index : ℕ) → slab_items_in {T = T} {g = g} (replicate cap None) index ≡ None
no_slab {T} {g} cap index = elim (cases_lt index cap) [
  | inl within ↦ get_or-replicate cap index None None within
  | inr past ↦ get_or_past (replicate cap None) index None (rw (length-replicate {A = Option (SlabItems T g)} cap None) past)
]

-- no slab has an item yet
pub item_none : {T : Type 0} {g : _} (p cap n : ℕ) (slabs : List (Option (SlabItems T g))) → slabs ≡ replicate cap None → item_in p slabs n ≡ None
item_none p cap n slabs is = no_item_of p n slabs (rw is (no_slab cap (n / p)))

-- and so no slab is there
pub slab_none : {T : Type 0} {g : _} (cap index : ℕ) (slabs : List (Option (SlabItems T g))) → slabs ≡ replicate cap None → is_some (slab_items_in slabs index) ≡ false
slab_none cap index slabs is = rw is (ap is_some (no_slab cap index))

not_none : {X : Type 0} (o : Option X) → is_none o ≡ true → is_some o ≡ false
not_none None is = refl
not_none (Some x) is = absurd cc

some_of : {X : Type 0} (o : Option X) → is_none o ≡ false → is_some o ≡ true
some_of None is = absurd cc
some_of (Some x) is = refl

-- the first gap, and the slabs before it
pub gap_found : {T : Type 0} {g : _} (slabs : List (Option (SlabItems T g))) (index : ℕ) → position is_none slabs ≡ Some index → (index < length slabs) × (is_some (slab_items_in slabs index) ≡ false) × ((lower : ℕ) → lower < index → is_some (slab_items_in slabs lower) ≡ true)
gap_found slabs index is =
    let at = position-Some is_none slabs index None is in
    (at.0, not_none (slab_items_in slabs index) at.1, λ lower below. some_of (slab_items_in slabs lower) (at.2 lower below))

-- where there is no gap, each has its list of items
filled : {T : Type 0} {g : _} (slabs : List (Option (SlabItems T g))) (index : ℕ) → index < length slabs → position is_none slabs ≡ None → (o : Option (SlabItems T g)) → slab_items_in slabs index ≡ o → is_some o ≡ true
filled slabs index within none (Some slab_items) is = refl
filled {T} {g} slabs index within none None is =
    let counted = get_or-le-sum_by (λ (o : Option (SlabItems T g)). cond (is_none o) 1 0) slabs index None within in
    let some : 0 < count_by is_none slabs = let one = rw is at counted in omega arith in
    absurd (cc (none, position_counted is_none slabs some))

pub no_gap : {T : Type 0} {g : _} (slabs : List (Option (SlabItems T g))) → position is_none slabs ≡ None → (index : ℕ) → index < length slabs → is_some (slab_items_in slabs index) ≡ true
no_gap slabs none index within = filled slabs index within none (slab_items_in slabs index) refl

-- a new slab has its items, and all else has what it had
pub slab_items_added : {T : Type 0} {g : _} (p n index : ℕ) (slabs : List (Option (SlabItems T g))) (slab_items : SlabItems T g) → index < length slabs → n / p ≡ index → item_in p (set slabs index (Some slab_items)) n ≡ item_on (n % p) slab_items
unfolding item_in
slab_items_added p n index slabs slab_items within at = rw (at, get_or-set_same slabs index (Some slab_items) None within) refl

pub slab_items_kept : {T : Type 0} {g : _} (p n index : ℕ) (slabs : List (Option (SlabItems T g))) (slab_items : SlabItems T g) → n / p ≢ index → item_in p (set slabs index (Some slab_items)) n ≡ item_in p slabs n
unfolding item_in
slab_items_kept p n index slabs slab_items other = rw (get_or-set_other slabs index (n / p) (Some slab_items) None other) refl

-- the item of a place of a slab
pub item_in-slab_items : {T : Type 0} {g : _} (p n : ℕ) (slabs : List (Option (SlabItems T g))) (slab_items : SlabItems T g) → slab_items_in slabs (n / p) ≡ Some slab_items → item_in p slabs n ≡ item_on (n % p) slab_items
unfolding item_in
item_in-slab_items p n slabs slab_items in_keg = rw in_keg refl

-- where a slab was taken away no item is, and all else has what it had
pub slab_items_gone : {T : Type 0} {g : _} (p n index : ℕ) (slabs : List (Option (SlabItems T g))) → index < length slabs → n / p ≡ index → item_in p (set slabs index None) n ≡ None
unfolding item_in
slab_items_gone p n index slabs within at = rw (at, get_or-set_same slabs index None None within) refl

pub slab_items_stay : {T : Type 0} {g : _} (p n index : ℕ) (slabs : List (Option (SlabItems T g))) → n / p ≢ index → item_in p (set slabs index None) n ≡ item_in p slabs n
unfolding item_in
slab_items_stay p n index slabs other = rw (get_or-set_other slabs index (n / p) None None other) refl

-- where a gap was read and put back, each item is where it was
pub gap_unmoved : {T : Type 0} {g : _} (p n index : ℕ) (slabs : List (Option (SlabItems T g))) (gap : Option (SlabItems T g)) → index < length slabs → slab_items_in slabs index ≡ None → gap ≡ None → item_in p (set slabs index gap) n ≡ item_in p slabs n
unfolding item_in
gap_unmoved p n index slabs gap within there none = elim (cases_eq (n / p) index) [
  | inl at ↦ rw (at, get_or-set_same slabs index gap None within, none, there) refl
  | inr other ↦ rw (get_or-set_other slabs index (n / p) gap None other) refl
]
