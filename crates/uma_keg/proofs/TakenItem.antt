-- A keg keeps its law where an item is taken.
use Rattle.std.proofs.Common.{◌≡◌, ◌≢◌, ◌<◌, ◌+◌, ◌*◌, ◌/◌, ℕ, zero, suc, [], ◌∷◌, false, List, Option, Some, None, is_some, length, get_or, set, refl, inl, inr, arith, sym, ap, subst, IfSome, OnSome, ◌∙◌}
use Rattle.std.proofs.lemmas.Bool.{cases_eq}
use Rattle.std.proofs.lemmas.List.{get_or-set_same, get_or-set_other, length-set}
use Rattle.std.proofs.lemmas.Option.{slice_get-get_or, slice_get_within, get_or_from_slice_get}
use Rattle.deed_book.specs.BookLaw.{IsHome}
use Rattle.uma_life.specs.declared.states.Stored.{Stored}
use Rattle.uma_keg.specs.declared.home_items.HomeItems.{HomeItems}
use Rattle.uma_life.specs.declared.states.Cached.{Cached}
use Rattle.uma_life.specs.Stored.{stored_body}
use Rattle.uma_life.specs.Cached.{cached_body, cached_no, cached_zone, cached_domain, cached_table}
use Rattle.uma_life.specs.Hook.{ZoneInit, after}
use Rattle.uma_keg.specs.declared.keg.Keg.{Keg}
use Rattle.uma_keg.specs.Keg.{places_in, zones_in, table_in, stored_in}
use Rattle.uma_slabs.specs.Places.{KegPlaces, domain_at, IsFree, Gives, CountsOneOut}
use Rattle.uma_slabs.specs.Taking.{TakesPlaces}
use Rattle.uma_keg.specs.TakeItem.{TakesItem, SamePlaces}
use Rattle.uma_keg.specs.HomeItems.{item_at, has_slab, slab_room, places_each}
use Rattle.uma_keg.specs.Outs.{out_of}
use Rattle.uma_keg.specs.KegLaw.{PlacesLaw, ZonesLaw, zone_at, is_used_place, is_free_place}
use Rattle.uma_keg.proofs.Outs.{out_issued, tick_same, tick_other}

no_zone : (o : Option ℕ) → is_some o ≡ false → o ≡ None
no_zone None is = refl
no_zone (Some zone) is = absurd cc

-- the number of a free place is at home, and so is its item
pub free_home : {T : Type 0} {g : _} {places : KegPlaces} {zones : List (Option ℕ)} {home_items : HomeItems T g} → PlacesLaw places zones home_items → (n : ℕ) → n < places.cap * places.per_slab → IsFree places n → IsHome zones n
free_home {places = places} {zones = zones} law n below free =
    let within : n < length zones = omega (arith, law.numbers) in
    slice_get-get_or zones n None within ∙ ap Some (no_zone (zone_at zones n) (law.outside n ∙ ap is_used_place free))

pub PlacesLaw-taken : {T : Type 0} {g : _} (places now : KegPlaces) (zones away : List (Option ℕ)) (home_items left : HomeItems T g) (n zone : ℕ) → PlacesLaw places zones home_items → TakesPlaces places n now → n < places.cap * places.per_slab → away ≡ set zones n (Some zone)
    → item_at left n ≡ None → ((m : ℕ) → m ≢ n → item_at left m ≡ item_at home_items m) → ((index : ℕ) → has_slab left index ≡ has_slab home_items index) → slab_room left ≡ slab_room home_items → places_each left ≡ places_each home_items → PlacesLaw now away left
PlacesLaw-taken places now zones away home_items left n zone law takes below is gone kept same count each =
    let within : n < length zones = omega (arith, law.numbers) in
    record {
      per_slab = each ∙ law.per_slab ∙ sym takes.slabs.per_slab;
      cap = count ∙ law.cap ∙ sym takes.slabs.cap;
      numbers = rw (takes.slabs.per_slab, takes.slabs.cap) (ap length is ∙ length-set zones n (Some zone) ∙ law.numbers);
      slabs = λ index. same index ∙ law.slabs index ∙ sym (ap is_some (takes.slabs.domains index));
      outside = λ m. elim (cases_eq m n) [
        | inl at ↦ rw (at, is) (ap is_some (get_or-set_same zones n (Some zone) None within) ∙ sym (ap is_used_place takes.out))
        | inr other ↦ ap is_some (ap (λ zs. zone_at zs m) is ∙ get_or-set_other zones n m (Some zone) None other) ∙ law.outside m ∙ sym (ap is_used_place (takes.others m other))
      ];
      home = λ m. elim (cases_eq m n) [
        | inl at ↦ rw at (ap is_some gone ∙ sym (ap is_free_place takes.out))
        | inr other ↦ ap is_some (kept m other) ∙ law.home m ∙ sym (ap is_free_place (takes.others m other))
      ];
      numbered = λ m found stands. elim (cases_eq m n) [
        | inl at ↦ let here : item_at left m ≡ None = rw at gone in absurd (cc (here, stands))
        | inr other ↦ law.numbered m found (sym (kept m other) ∙ stands)
      ];
    }

pub out_taken : (zones away : List (Option ℕ)) (n zone : ℕ) → away ≡ set zones n (Some zone) → IsHome zones n → out_of away zone ≡ out_of zones zone + 1
out_taken zones away n zone is home = rw is (omega (arith, out_issued zones n zone zone home, tick_same zone))

pub outs_taken : (zones away : List (Option ℕ)) (n zone other : ℕ) → away ≡ set zones n (Some zone) → IsHome zones n → other ≢ zone → out_of away other ≡ out_of zones other
outs_taken zones away n zone other is home ne = rw is (omega (arith, out_issued zones n zone other home, tick_other zone other ne))

pub ZonesLaw-taken : (zones away rights : List (Option ℕ)) (limits : List ℕ) (n zone : ℕ) → ZonesLaw zones rights limits → away ≡ set zones n (Some zone) → IsHome zones n → IsHome rights zone → ZonesLaw away rights limits
ZonesLaw-taken zones away rights limits n zone law is home exists = record {
  eight_rights = law.eight_rights;
  eight_limits = law.eight_limits;
  absent = λ z within no. elim (cases_eq z zone) [
    | inl at ↦ let gone : IsHome rights z = rw at exists in absurd (no gone)
    | inr other ↦ outs_taken zones away n zone z is home other ∙ law.absent z within no
  ];
}

-- a number that was taken and comes home leaves the book's map as it was
pub set_back : {X : Type 0} (xs : List X) (n : ℕ) (x d : X) → n < length xs → get_or xs n d ≡ d → set (set xs n x) n d ≡ xs
set_back [] n x d within is = absurd (omega arith)
set_back {X} (y ∷ xs) zero x d within is = ap (λ (z : X). z ∷ xs) (sym is)
set_back {X} (y ∷ xs) (suc n) x d within is = ap (λ (rest : List X). y ∷ rest) (set_back xs n x d (omega arith) is)

-- a number that was taken and given back: each place is as before
pub same_again : (places mid now : KegPlaces) (n : ℕ) → TakesPlaces places n mid → CountsOneOut places mid → Gives mid n now → CountsOneOut now mid → SamePlaces places now
same_again places mid now n takes out gives home = record {
  slabs = record {
    per_slab = gives.slabs.per_slab ∙ takes.slabs.per_slab;
    cap = gives.slabs.cap ∙ takes.slabs.cap;
    made = gives.slabs.made ∙ takes.slabs.made;
    domains = λ index. gives.slabs.domains index ∙ takes.slabs.domains index;
  };
  places = λ m. elim (cases_eq m n) [
    | inl at ↦ rw at (gives.free ∙ sym takes.free)
    | inr other ↦ gives.others m other ∙ takes.others m other
  ];
  slabs_in = sym home.slabs ∙ out.slabs;
  free = omega (arith, out.free, home.free);
  out = omega (arith, out.out, home.out);
}

-- the map of the numbers outside is as it was, once a number at home was taken and came home again
pub zones_again : (zones away home : List (Option ℕ)) (n zone : ℕ) → IsHome zones n → away ≡ set zones n (Some zone) → home ≡ set away n None → home ≡ zones
zones_again zones away home n zone is taken back =
    back ∙ ap (λ zs. set zs n None) taken ∙ set_back zones n (Some zone) None (slice_get_within zones n None is) (get_or_from_slice_get zones n None None is)

-- the items at home are as they were
pub items_again : {T : Type 0} {g : _} (old mid new : HomeItems T g) (n : ℕ) (item : Stored T g) → item_at old n ≡ Some item → ((m : ℕ) → m ≢ n → item_at mid m ≡ item_at old m) → item_at new n ≡ Some item → ((m : ℕ) → m ≢ n → item_at new m ≡ item_at mid m) → (m : ℕ) → item_at new m ≡ item_at old m
items_again old mid new n item was taken put back m = elim (cases_eq m n) [
  | inl at ↦ rw at (put ∙ sym was)
  | inr other ↦ back m other ∙ taken m other
]

-- what holds of what was found
pub if_some : {X : Type 0} (o : Option X) (P : X → Type 0) (x : X) → o ≡ Some x → IfSome o P → P x
if_some None P x is holds = absurd cc
if_some (Some y) P x is holds = let same : y ≡ x = cc in subst P same holds

pub on_some : {X : Type 0} (o : Option X) (P : Type 0) (x : X) → o ≡ Some x → OnSome o P → P
on_some None P x is holds = absurd cc
on_some (Some y) P x is holds = holds

-- what a keg knows of an item that was lent by the deed of its number
pub record IsLent {T K : Type 0} {g : _} {h : _} (old : Keg T K g h) (hooks : K) (deed_zone : ℕ) (item : Cached T g) (stored : Stored T g) : Type 0 where
  pub primary : deed_zone ≡ 0 → cached_body item ≡ stored_body stored
  pub entered : deed_zone ≢ 0 → g.life (cached_body item) ≡ after (ZoneInit deed_zone) (g.life (stored_body stored))
  pub left : deed_zone ≢ 0 → h.leaves_init hooks (stored_body stored) deed_zone (cached_body item)
  pub accepted : deed_zone ≢ 0 → h.refuses_init hooks (stored_body stored) deed_zone ≡ None

pub takes_item : {T K : Type 0} {g : _} {h : _} (old new : Keg T K g h) (hooks : K) (zone n deed_zone : ℕ) (item : Cached T g) (stored : Stored T g) → cached_no item ≡ n → TakesPlaces (places_in old) n (places_in new) → CountsOneOut (places_in old) (places_in new)
    → cached_zone item ≡ zone → cached_table item ≡ table_in old → domain_at (places_in old) (n / (places_in old).per_slab) ≡ Some (cached_domain item) → stored_in old n ≡ Some stored → deed_zone ≡ zone → IsLent old hooks deed_zone item stored
    → zones_in new ≡ set (zones_in old) n (Some zone) → IsHome (zones_in old) n → stored_in new n ≡ None → ((m : ℕ) → m ≢ n → stored_in new m ≡ stored_in old m) → TakesItem old hooks zone item new
takes_item {T} {K} {g} {h} old new hooks zone n deed_zone item stored e takes counts of_zone of_book domain was same lent zones home gone others =
    let Places : ℕ → Type 0 = λ m. TakesPlaces (places_in old) m (places_in new) in
    let Lent : ℕ → Type 0 = λ z. IsLent old hooks z item stored in
    let own : IsLent old hooks zone item stored = subst Lent same lent in
    record {
      places = subst Places (sym e) takes;
      counts = counts;
      taken = record {
        of_zone = of_zone;
        of_book = of_book;
        in_domain = ap (λ (m : ℕ). domain_at (places_in old) (m / (places_in old).per_slab)) e ∙ domain;
        stored = stored;
        was_home = ap (stored_in old) e ∙ was;
        primary = own.primary;
        entered = own.entered;
        left = own.left;
        accepted = own.accepted;
      };
      zones = zones ∙ ap (λ (m : ℕ). set (zones_in old) m (Some zone)) (sym e);
      out = out_taken (zones_in old) (zones_in new) n zone zones home;
      outs = λ other ne. outs_taken (zones_in old) (zones_in new) n zone other zones home ne;
      gone = ap (stored_in new) e ∙ gone;
      others = λ m ne. others m (λ at. ne (at ∙ sym e));
    }
