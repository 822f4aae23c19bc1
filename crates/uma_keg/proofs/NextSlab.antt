-- The next slab of a keg: its index, its items, and the law once they are at home.
use Rattle.std.proofs.Common.{◌≡◌, ◌≤◌, ◌<◌, ◌+◌, ◌*◌, ◌/◌, ◌%◌, ℕ, zero, suc, true, false, cond, List, [], ◌∷◌, Option, Some, None, is_some, length, get_or, count_by, refl, inl, inr, arith, sym, ap, subst, ◌∙◌}
use Rattle.std.specs.Option.{IsSomeAnd}
use Rattle.std.proofs.Math.Nat.{mod-lt}
use Rattle.std.proofs.lemmas.Bool.{cases_lt}
use Rattle.std.proofs.lemmas.List.{get_or_past}
use Rattle.std.proofs.lemmas.List.Sums.{sum_by-cons}
use Rattle.std.proofs.lemmas.Nat.{div-add-mod'}
use Rattle.uma_life.specs.declared.states.Stored.{Stored}
use Rattle.uma_life.specs.Life.{Life}
use Rattle.uma_keg.specs.declared.slabs.SlabItems.{SlabItems}
use Rattle.uma_keg.specs.declared.home_items.HomeItems.{HomeItems}
use Rattle.uma_keg.specs.SlabItems.{places_of_slab}
use Rattle.uma_slabs.specs.Places.{KegPlaces, Slab, slab_at, domain_at, slab_count, Brings}
use Rattle.uma_keg.specs.HomeLists.{item_on}
use Rattle.uma_keg.specs.HomeItems.{item_at, has_slab, slab_room, places_each, IsAdded}
use Rattle.uma_keg.specs.KegLaw.{PlacesLaw}
use Rattle.uma_keg.specs.NewItems.{IsNewItem, AreNewItems}
use Rattle.uma_keg.specs.BringSlab.{IsNextIndex}
use Rattle.uma_slabs.proofs.Slabs.{domain_at-absent}
use Rattle.uma_keg.proofs.BroughtSlab.{IsBrought}

none_of : {X : Type 0} (o : Option X) → is_some o ≡ false → o ≡ None
none_of None is = refl
none_of (Some x) is = absurd cc

-- what was found in a slab
of_some : {X : Type 0} (P : X → Type 0) (o : Option X) (x : X) → IsSomeAnd o P → o ≡ Some x → P x
of_some P None x holds is = absurd holds
of_some P (Some y) x holds is = let same : y ≡ x = cc in subst P same holds

some_there : {X : Type 0} (P : X → Type 0) (o : Option X) → IsSomeAnd o P → is_some o ≡ true
some_there P None holds = absurd holds
some_there P (Some x) holds = refl

new_on : {T : Type 0} {g : _} (first per_slab place : ℕ) (slab_items : SlabItems T g) (item : Stored T g) → length (places_of_slab slab_items) ≡ per_slab → AreNewItems first (places_of_slab slab_items) → item_on place slab_items ≡ Some item → IsNewItem (first + place) item
new_on first per_slab place slab_items item len new is = elim (cases_lt place per_slab) [
  | inl within ↦ of_some (IsNewItem (first + place)) (item_on place slab_items) item (new.each place (omega (arith, len))) is
  | inr past ↦ absurd (cc (get_or_past (places_of_slab slab_items) place None (omega (arith, len)), is))
]

pub brought_items : {T : Type 0} {g : _} (first per_slab : ℕ) (slab_items : SlabItems T g) → length (places_of_slab slab_items) ≡ per_slab → AreNewItems first (places_of_slab slab_items) → IsBrought first per_slab slab_items
brought_items first per_slab slab_items len new = record {
  whole = λ place below. some_there (IsNewItem (first + place)) (item_on place slab_items) (new.each place (omega (arith, len)));
  numbered = λ place item is. ap (λ (life : Life). life.no) (new_on first per_slab place slab_items item len new is).life;
}

no_some : false ≡ true → ⊥
no_some e = cc

-- where each of the first elements is there, as many are counted
first_counted : {X : Type 0} (xs : List (Option X)) (m : ℕ) → ((i : ℕ) → i < m → is_some (get_or xs i None) ≡ true) → m ≤ count_by is_some xs
first_counted xs zero there = omega arith
first_counted {X} [] (suc m) there = let here : is_some {T = X} None ≡ true = there 0 (omega arith) in absurd (no_some here)
first_counted {X} (x ∷ xs) (suc m) there =
    let rest = first_counted xs m (λ i below. there (suc i) (omega arith)) in
    let here : is_some x ≡ true = there 0 (omega arith) in
    let one : ◌≡◌ {A = ℕ} (cond (is_some x) 1 0) 1 = rw here refl in
    omega (arith, rest, one, sum_by-cons (λ (o : Option X). cond (is_some o) 1 0) x xs)

in_slab : (places : KegPlaces) (i : ℕ) (o : Option Slab) → slab_at places i ≡ o → is_some (domain_at places i) ≡ true → is_some (slab_at places i) ≡ true
in_slab places i None absent is = absurd (cc (domain_at-absent places i absent, is))
in_slab places i (Some s) there is = rw there refl

-- where fewer slabs are in than may be, not each index has its list of items
pub some_gap : {T : Type 0} {g : _} (places : KegPlaces) (zones : _) (home_items : HomeItems T g) → PlacesLaw places zones home_items → slab_count places < places.cap → ((index : ℕ) → index < slab_room home_items → has_slab home_items index ≡ true) → ⊥
unfolding slab_count
some_gap places zones home_items law room full =
    let counted = first_counted places.slabs places.cap (λ i below. in_slab places i (slab_at places i) refl (sym (law.slabs i) ∙ full i (omega (arith, law.cap)))) in
    omega (arith, counted)

pub next_index : {T : Type 0} {g : _} (places : KegPlaces) (zones : _) (home_items : HomeItems T g) (index : ℕ) → PlacesLaw places zones home_items → index < slab_room home_items → has_slab home_items index ≡ false → ((lower : ℕ) → lower < index → has_slab home_items lower ≡ true) → IsNextIndex places index
next_index places zones home_items index law within gap least = record {
  within = omega (arith, law.cap);
  absent = none_of (domain_at places index) (sym (law.slabs index) ∙ gap);
  least = λ lower below. sym (law.slabs lower) ∙ least lower below;
}

-- the index of a slab that is brought in is the next one
pub same_index : (places now : KegPlaces) (domain index other : ℕ) → IsNextIndex places index → Brings places domain other now → other ≡ index
same_index places now domain index other next brings = elim (cases_lt other index) [
  | inl lower ↦ absurd (cc (next.least other lower, brings.absent))
  | inr not_lower ↦ elim (cases_lt index other) [
    | inl higher ↦ absurd (cc (brings.least index higher, next.absent))
    | inr same ↦ omega arith
  ]
]

pub brings_next : (places now : KegPlaces) (domain index other : ℕ) → IsNextIndex places index → Brings places domain other now → Brings places domain index now
brings_next places now domain index other next brings =
    let At : ℕ → Type 0 = λ i. Brings places domain i now in
    subst At (same_index places now domain index other next brings) brings

-- the number of a place of a slab
number_in : (n p index : ℕ) → n / p ≡ index → index * p + n % p ≡ n
number_in n p index at = ap (λ (i : ℕ). i * p + n % p) (sym at) ∙ div-add-mod' n p

-- what holds of each place of the next slab holds of each of its numbers
pub of_numbers : (Holds : ℕ → Type 0) (p index : ℕ) → 1 ≤ p → ((place : ℕ) → place < p → Holds (index * p + place)) → (n : ℕ) → n / p ≡ index → Holds n
of_numbers Holds p index some each n at = subst Holds (number_in n p index at) (each (n % p) (mod-lt n some))

-- the new items are at home
pub new_at_home : {T : Type 0} {g : _} (p index : ℕ) (old new : HomeItems T g) (slab_items : SlabItems T g) → 1 ≤ p → places_each old ≡ p → IsAdded old new index slab_items → length (places_of_slab slab_items) ≡ p → AreNewItems (index * p) (places_of_slab slab_items) → (n : ℕ) → n / p ≡ index → IsSomeAnd (item_at new n) (IsNewItem n)
new_at_home {T} {g} p index old new slab_items some each added len are n at =
    let there : item_at new n ≡ item_on (n % p) slab_items = added.items n (rw each at) ∙ ap (λ q. item_on (n % q) slab_items) each in
    let here : IsSomeAnd (item_on (n % p) slab_items) (IsNewItem (index * p + n % p)) = are.each (n % p) (omega (arith, len, mod-lt n some)) in
    let At : ℕ → Type 0 = λ m. IsSomeAnd (item_on (n % p) slab_items) (IsNewItem m) in
    rw there (subst At (number_in n p index at) here)
