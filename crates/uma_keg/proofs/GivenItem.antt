-- A keg keeps its law where an item comes back.
use Rattle.std.proofs.Common.{◌≡◌, ◌≢◌, ◌+◌, ◌/◌, ℕ, Bool, true, false, List, Option, Some, None, is_some, option_map, length, set, refl, inl, inr, arith, sym, ap, ◌∙◌}
use Rattle.std.specs.List.{slice_get}
use Rattle.std.proofs.lemmas.Bool.{cases_lt, cases_eq}
use Rattle.std.proofs.lemmas.List.{get_or-set_same, get_or-set_other, get_or_past, length-set}
use Rattle.std.proofs.lemmas.Option.{get_or_from_slice_get}
use Rattle.uma_life.specs.declared.states.Stored.{Stored}
use Rattle.uma_life.specs.Stored.{stored_no}
use Rattle.uma_keg.specs.declared.home_items.HomeItems.{HomeItems}
use Rattle.uma_slabs.specs.Places.{KegPlaces, place_at, domain_at, IsOut, Gives}
use Rattle.uma_keg.specs.HomeItems.{item_at, has_slab, slab_room, places_each}
use Rattle.uma_keg.specs.Outs.{out_of}
use Rattle.uma_keg.specs.KegLaw.{PlacesLaw, ZonesLaw, zone_at, is_used_place, is_free_place}
use Rattle.uma_keg.proofs.Outs.{out_accepted, tick_same, tick_other}
use Rattle.uma_slabs.proofs.Slabs.{slab_of}

used : (place : Option Bool) → is_used_place place ≡ true → place ≡ Some false
used None is = cc
used (Some true) is = cc
used (Some false) is = refl

not_some : {X : Type 0} (o : Option X) → is_some o ≡ false → o ≡ None
not_some None is = refl
not_some (Some x) is = cc

-- the place of a number that is outside is used
pub out_place : {T : Type 0} {g : _} {places : KegPlaces} {zones : List (Option ℕ)} {home_items : HomeItems T g} → PlacesLaw places zones home_items → (n zone : ℕ) → slice_get zones n ≡ Some (Some zone) → IsOut places n
out_place {places = places} {zones = zones} law n zone is =
    used (place_at places n) (sym (law.outside n) ∙ ap is_some (get_or_from_slice_get zones n (Some zone) None is))

-- its item is not at home
pub out_item : {T : Type 0} {g : _} {places : KegPlaces} {zones : List (Option ℕ)} {home_items : HomeItems T g} → PlacesLaw places zones home_items → (n : ℕ) → IsOut places n → item_at home_items n ≡ None
out_item {home_items = home_items} law n out = not_some (item_at home_items n) (law.home n ∙ ap is_free_place out)

-- and its slab has its list of items
pub out_slab : {T : Type 0} {g : _} {places : KegPlaces} {zones : List (Option ℕ)} {home_items : HomeItems T g} → PlacesLaw places zones home_items → (n : ℕ) → IsOut places n → has_slab home_items (n / places_each home_items) ≡ true
unfolding domain_at
out_slab {places = places} {home_items = home_items} law n out =
    let has = slab_of places n false out in
    rw law.per_slab (law.slabs (n / places.per_slab) ∙ ap (λ s. is_some (option_map (λ slab. slab.domain) s)) has.in_keg)

came_home : (zones : List (Option ℕ)) (n : ℕ) → zone_at (set zones n None) n ≡ None
came_home zones n = elim (cases_lt n (length zones)) [
  | inl within ↦ get_or-set_same zones n None None within
  | inr past ↦ get_or_past (set zones n None) n None (rw (length-set zones n None) past)
]

pub PlacesLaw-given : {T : Type 0} {g : _} (places now : KegPlaces) (zones home : List (Option ℕ)) (home_items full : HomeItems T g) (n : ℕ) (item : Stored T g) → PlacesLaw places zones home_items → Gives places n now → home ≡ set zones n None
    → item_at full n ≡ Some item → ((m : ℕ) → m ≢ n → item_at full m ≡ item_at home_items m) → ((index : ℕ) → has_slab full index ≡ has_slab home_items index) → slab_room full ≡ slab_room home_items → places_each full ≡ places_each home_items
    → stored_no item ≡ n → PlacesLaw now home full
PlacesLaw-given places now zones home home_items full n item law gives is put kept same count each number = record {
  per_slab = each ∙ law.per_slab ∙ sym gives.slabs.per_slab;
  cap = count ∙ law.cap ∙ sym gives.slabs.cap;
  numbers = rw (gives.slabs.per_slab, gives.slabs.cap) (ap length is ∙ length-set zones n None ∙ law.numbers);
  slabs = λ index. same index ∙ law.slabs index ∙ sym (ap is_some (gives.slabs.domains index));
  outside = λ m. elim (cases_eq m n) [
    | inl at ↦ rw (at, is) (ap is_some (came_home zones n) ∙ sym (ap is_used_place gives.free))
    | inr other ↦ ap is_some (ap (λ zs. zone_at zs m) is ∙ get_or-set_other zones n m None None other) ∙ law.outside m ∙ sym (ap is_used_place (gives.others m other))
  ];
  home = λ m. elim (cases_eq m n) [
    | inl at ↦ rw at (ap is_some put ∙ sym (ap is_free_place gives.free))
    | inr other ↦ ap is_some (kept m other) ∙ law.home m ∙ sym (ap is_free_place (gives.others m other))
  ];
  numbered = λ m found stands. elim (cases_eq m n) [
    | inl at ↦ let same_item : item ≡ found = cc in rw (← same_item, at) number
    | inr other ↦ law.numbered m found (sym (kept m other) ∙ stands)
  ];
}

pub ZonesLaw-given : (zones home rights : List (Option ℕ)) (limits : List ℕ) (n zone : ℕ) → ZonesLaw zones rights limits → home ≡ set zones n None → slice_get zones n ≡ Some (Some zone) → ZonesLaw home rights limits
ZonesLaw-given zones home rights limits n zone law is out = rw is (record {
  eight_rights = law.eight_rights;
  eight_limits = law.eight_limits;
  absent = λ z below no. omega (arith, law.absent z below no, out_accepted zones n zone z out);
})

pub out_given : (zones home : List (Option ℕ)) (n zone : ℕ) → home ≡ set zones n None → slice_get zones n ≡ Some (Some zone) → out_of home zone + 1 ≡ out_of zones zone
out_given zones home n zone is out = rw is (omega (arith, out_accepted zones n zone zone out, tick_same zone))

pub outs_given : (zones home : List (Option ℕ)) (n zone other : ℕ) → home ≡ set zones n None → slice_get zones n ≡ Some (Some zone) → other ≢ zone → out_of home other ≡ out_of zones other
outs_given zones home n zone other is out ne = rw is (omega (arith, out_accepted zones n zone other out, tick_other zone other ne))
