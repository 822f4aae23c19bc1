-- A keg keeps its law where a slab is brought in, all of whose items are at home.
use Rattle.std.proofs.Common.{◌≡◌, ◌≤◌, ◌<◌, ◌+◌, ◌*◌, ◌/◌, ◌%◌, ℕ, Bool, true, List, Option, Some, None, is_some, refl, inl, inr, sym, ap, ◌∙◌}
use Rattle.std.proofs.Math.Nat.{mod-lt}
use Rattle.std.proofs.lemmas.Nat.{div-add-mod'}
use Rattle.std.proofs.lemmas.Bool.{cases_eq}
use Rattle.uma_slabs.proofs.Slabs.{slab_of, domain_at-in}
use Rattle.uma_life.specs.declared.states.Stored.{Stored}
use Rattle.uma_life.specs.Stored.{stored_no}
use Rattle.uma_keg.specs.declared.slabs.SlabItems.{SlabItems}
use Rattle.uma_keg.specs.declared.home_items.HomeItems.{HomeItems}
use Rattle.uma_slabs.specs.Places.{KegPlaces, place_at, domain_at, Brings}
use Rattle.uma_keg.specs.HomeLists.{item_on}
use Rattle.uma_keg.specs.HomeItems.{IsAdded}
use Rattle.uma_keg.specs.KegLaw.{PlacesLaw, is_used_place, is_free_place}

-- each place of the slab has the item of its number
pub record IsBrought {T : Type 0} {g : _} (first per_slab : ℕ) (slab_items : SlabItems T g) : Type 0 where
  pub whole : (place : ℕ) → place < per_slab → is_some (item_on place slab_items) ≡ true
  pub numbered : (place : ℕ) (item : Stored T g) → item_on place slab_items ≡ Some item → stored_no item ≡ first + place

number_of : (n p index : ℕ) → n / p ≡ index → index * p + n % p ≡ n
number_of n p index at = ap (λ (i : ℕ). i * p + n % p) (sym at) ∙ div-add-mod' n p

-- a slab that isn't in has no place
no_place : (places : KegPlaces) (n : ℕ) (o : Option Bool) → place_at places n ≡ o → domain_at places (n / places.per_slab) ≡ None → place_at places n ≡ None
no_place places n None is absent = is
no_place places n (Some b) is absent = let has = slab_of places n b is in absurd (cc (absent, domain_at-in places (n / places.per_slab) has.slab has.in_keg))

pub PlacesLaw-brought : {T : Type 0} {g : _} (places now : KegPlaces) (zones : List (Option ℕ)) (home_items full : HomeItems T g) (index domain : ℕ) (slab_items : SlabItems T g)
    → 1 ≤ places.per_slab → PlacesLaw places zones home_items → Brings places domain index now → IsAdded home_items full index slab_items → IsBrought (index * places.per_slab) places.per_slab slab_items → PlacesLaw now zones full
PlacesLaw-brought places now zones home_items full index domain slab_items some law brings added brought = record {
  per_slab = added.places ∙ law.per_slab ∙ sym brings.per_slab;
  cap = added.count ∙ law.cap ∙ sym brings.cap;
  numbers = rw (brings.per_slab, brings.cap) law.numbers;
  slabs = λ other. elim (cases_eq other index) [
    | inl at ↦ rw at (added.there ∙ sym (ap is_some brings.domain))
    | inr else ↦ added.home_items other else ∙ law.slabs other ∙ sym (ap is_some (brings.other_slabs other else))
  ];
  outside = λ n. elim (cases_eq (n / places.per_slab) index) [
    | inl at ↦ law.outside n ∙ ap is_used_place (no_place places n (place_at places n) refl (ap (domain_at places) at ∙ brings.absent)) ∙ sym (ap is_used_place (brings.free n at))
    | inr else ↦ law.outside n ∙ sym (ap is_used_place (brings.other_places n else))
  ];
  home = λ n. elim (cases_eq (n / places.per_slab) index) [
    | inl at ↦ ap is_some (added.items n (ap (λ p. n / p) law.per_slab ∙ at)) ∙ ap (λ p. is_some (item_on (n % p) slab_items)) law.per_slab ∙ brought.whole (n % places.per_slab) (mod-lt n some) ∙ sym (ap is_free_place (brings.free n at))
    | inr else ↦ ap is_some (added.others n (λ at. else (ap (λ p. n / p) (sym law.per_slab) ∙ at))) ∙ law.home n ∙ sym (ap is_free_place (brings.other_places n else))
  ];
  numbered = λ n item is. elim (cases_eq (n / places.per_slab) index) [
    | inl at ↦ brought.numbered (n % places.per_slab) item (ap (λ p. item_on (n % p) slab_items) (sym law.per_slab) ∙ sym (added.items n (ap (λ p. n / p) law.per_slab ∙ at)) ∙ is) ∙ number_of n places.per_slab index at
    | inr else ↦ law.numbered n item (sym (added.others n (λ at. else (ap (λ p. n / p) (sym law.per_slab) ∙ at))) ∙ is)
  ];
}
