-- A keg with no slab in.
use Rattle.std.proofs.Common.{◌≡◌, ℕ, zero, suc, ◌∷◌, ◌/◌, false, not, cond, map, length, replicate, Option, None, IsSome, is_some, arith, refl, sym, ap, inl, inr, ◌∙◌}
use Rattle.std.proofs.lemmas.Bool.{cases_lt}
use Rattle.std.proofs.lemmas.List.{length-replicate, get_or-replicate, get_or_past}
use Rattle.std.proofs.lemmas.List.Elements.{All-replicate}
use Rattle.std.proofs.lemmas.List.Folds.{sum_by-replicate}
use Rattle.uma_slabs.specs.declared.places.Places.TheInside.{Inside}
use Rattle.uma_slabs.specs.Places.{KegPlaces, Slab, slab_at, place_at, domain_at, places_by, slab_count, free_count, out_count, IsSound, IsNew}
use Rattle.uma_slabs.specs.Kept.{keg_of, places_of, IsKept, IsSize}
use Rattle.uma_slabs.specs.Room.{RoomState, empty_room, slab_in}
use Rattle.uma_slabs.proofs.Slabs.{place_at-absent, domain_at-absent}

-- a keg of rooms with no slab
abbrev pub empty_keg : ℕ → ℕ → KegPlaces
empty_keg places most = keg_of places most 0 (replicate most (empty_room places))

pub map-replicate : {A B : Type 0} (f : A → B) (n : ℕ) (x : A) → map f (replicate n x) ≡ replicate n (f x)
map-replicate f zero x = refl
map-replicate f (suc n) x = ap (λ t. f x ∷ t) (map-replicate f n x)

no_slabs : (places most : ℕ) → (empty_keg places most).slabs ≡ replicate most None
no_slabs places most = map-replicate slab_in most (empty_room places)

slab_at-empty : (places most i : ℕ) → slab_at (empty_keg places most) i ≡ None
slab_at-empty places most i =
    rw (no_slabs places most)
    (elim (cases_lt i most) [
      | inl below ↦ get_or-replicate most i None None below
      | inr past ↦ (let len = length-replicate {A = Option Slab} most None in get_or_past (replicate most None) i None (omega arith))
    ])

slab_count-empty : (places most : ℕ) → slab_count (empty_keg places most) ≡ 0
unfolding slab_count
slab_count-empty places most =
    rw (no_slabs places most) (omega (arith, sum_by-replicate (λ (o : Option Slab). cond (is_some o) 1 0) most None))

free_count-empty : (places most : ℕ) → free_count (empty_keg places most) ≡ 0
unfolding free_count
free_count-empty places most =
    rw (no_slabs places most) (omega (arith, sum_by-replicate (places_by (λ b. b)) most None))

out_count-empty : (places most : ℕ) → out_count (empty_keg places most) ≡ 0
unfolding out_count
out_count-empty places most =
    rw (no_slabs places most) (omega (arith, sum_by-replicate (places_by not) most None))

pub IsNew-empty : (places most : ℕ) → IsNew places most (empty_keg places most)
IsNew-empty places most = record {
  per_slab = refl;
  cap = refl;
  made = refl;
  absent = λ i. domain_at-absent (empty_keg places most) i (slab_at-empty places most i);
  nowhere = λ n. place_at-absent (empty_keg places most) n (slab_at-empty places most (n / places));
  slabs = slab_count-empty places most;
  free = free_count-empty places most;
  out = out_count-empty places most;
}

no_place : {X : Type 0} (o : Option X) → o ≡ None → IsSome o → ⊥
no_place o none some = cc

pub IsSound-empty : (places most : ℕ) → IsSize places most → IsSound (empty_keg places most)
IsSound-empty places most size =
    let slabs = slab_count-empty places most in
    let free = free_count-empty places most in
    let out = out_count-empty places most in
    record {
      some_place = size.some_place;
      few_places = size.few_places;
      some_slab = size.some_slab;
      few_slabs = size.few_slabs;
      slabs = omega arith;
      places = rw (slabs, free, out) (omega arith);
      whole = λ n here. absurd (no_place (domain_at (empty_keg places most) (n / places)) ((IsNew-empty places most).absent (n / places)) here);
      numbers = λ n some. absurd (no_place (place_at (empty_keg places most) n) ((IsNew-empty places most).nowhere n) some);
      made = omega (arith, slabs, size.few_slabs);
    }

-- the rooms that are made keep such a keg
pub keeps_empty : (a : Inside) → IsSize a.per_slab a.cap → a.made ≡ 0 → a.slabs ≡ 0 → a.free ≡ 0 → a.rooms ≡ replicate a.cap (empty_room a.per_slab) → places_of a ≡ empty_keg a.per_slab a.cap
keeps_empty a size made slabs free rooms = rw (made, rooms) refl

pub IsKept-empty : (a : Inside) → IsSize a.per_slab a.cap → a.made ≡ 0 → a.slabs ≡ 0 → a.free ≡ 0 → a.rooms ≡ replicate a.cap (empty_room a.per_slab) → IsKept a
IsKept-empty a size made slabs free rooms =
    let is = keeps_empty a size made slabs free rooms in
    record {
      rooms = rw rooms (length-replicate a.cap (empty_room a.per_slab));
      places = rw rooms (All-replicate (λ (room : RoomState). length room.free ≡ a.per_slab) a.cap (empty_room a.per_slab) (length-replicate a.per_slab false));
      slabs = rw is (slabs ∙ sym (slab_count-empty a.per_slab a.cap));
      free = rw is (free ∙ sym (free_count-empty a.per_slab a.cap));
      sound = rw is (IsSound-empty a.per_slab a.cap size);
    }
