-- A keg's places, by the slab that each is in.
use Rattle.std.proofs.Common.{◌≡◌, ◌≢◌, ℕ, ◌+◌, ◌*◌, ◌/◌, ◌%◌, ◌<◌, Bool, length, Option, Some, None, IsSome, arith, refl, sym, ap, inl, inr, ◌∙◌}
use Rattle.std.specs.List.{slice_get}
use Rattle.std.proofs.Math.Arith.{digits_div, digits_mod}
use Rattle.std.proofs.lemmas.Nat.{div-add-mod'}
use Rattle.std.proofs.lemmas.Bool.{cases_lt}
use Rattle.std.proofs.lemmas.List.{get_or_past}
use Rattle.uma_slabs.specs.Places.{KegPlaces, Slab, slab_at, place_at, domain_at, IsFree, IsOut}

-- the place of a number whose slab is in, and of one whose slab isn't
pub place_at-in : (k : KegPlaces) (n : ℕ) (s : Slab) → slab_at k (n / k.per_slab) ≡ Some s → place_at k n ≡ slice_get s.free (n % k.per_slab)
unfolding place_at
place_at-in k n s is = rw is

pub place_at-absent : (k : KegPlaces) (n : ℕ) → slab_at k (n / k.per_slab) ≡ None → place_at k n ≡ None
unfolding place_at
place_at-absent k n is = rw is

-- two kegs have the same place at a number where they have the same slab there
pub place_at-same : (k m : KegPlaces) (n : ℕ) → m.per_slab ≡ k.per_slab → slab_at m (n / k.per_slab) ≡ slab_at k (n / k.per_slab) → place_at m n ≡ place_at k n
unfolding place_at
place_at-same k m n size is = rw (size, is)

pub domain_at-same : (k m : KegPlaces) (i : ℕ) → slab_at m i ≡ slab_at k i → domain_at m i ≡ domain_at k i
unfolding domain_at
domain_at-same k m i is = rw is

pub domain_at-in : (k : KegPlaces) (i : ℕ) (s : Slab) → slab_at k i ≡ Some s → domain_at k i ≡ Some s.domain
unfolding domain_at
domain_at-in k i s is = rw is

pub domain_at-absent : (k : KegPlaces) (i : ℕ) → slab_at k i ≡ None → domain_at k i ≡ None
unfolding domain_at
domain_at-absent k i is = rw is

-- the slab of a number that has a place
pub record HasSlab (k : KegPlaces) (n : ℕ) (b : Bool) : Type 0 where
  pub slab : Slab
  pub in_keg : slab_at k (n / k.per_slab) ≡ Some slab
  pub value : slice_get slab.free (n % k.per_slab) ≡ Some b

none_some : {X : Type 0} (x : X) → None ≡ Some x → ⊥
none_some x e = cc

has_slab : (k : KegPlaces) (n : ℕ) (b : Bool) (o : Option Slab) → slab_at k (n / k.per_slab) ≡ o → place_at k n ≡ Some b → HasSlab k n b
has_slab k n b None absent is = absurd (none_some b (sym (place_at-absent k n absent) ∙ is))
has_slab k n b (Some s) in_keg is = record { slab = s; in_keg = in_keg; value = sym (place_at-in k n s in_keg) ∙ is }

pub slab_of : (k : KegPlaces) (n : ℕ) (b : Bool) → place_at k n ≡ Some b → HasSlab k n b
slab_of k n b is = has_slab k n b (slab_at k (n / k.per_slab)) refl is

-- a number that has a place has a slab
in_with_place : (k : KegPlaces) (n : ℕ) (o : Option Slab) → slab_at k (n / k.per_slab) ≡ o → IsSome (place_at k n) → IsSome (domain_at k (n / k.per_slab))
in_with_place k n None absent some = absurd (cc (place_at-absent k n absent, some))
in_with_place k n (Some s) in_keg some = rw (domain_at-in k (n / k.per_slab) s in_keg) refl

pub IsIn-place_at : (k : KegPlaces) (n : ℕ) → IsSome (place_at k n) → IsSome (domain_at k (n / k.per_slab))
IsIn-place_at k n some = in_with_place k n (slab_at k (n / k.per_slab)) refl some

-- a slab that is in has one of the indices
pub slab_at-within : (k : KegPlaces) (i : ℕ) (s : Slab) → slab_at k i ≡ Some s → i < length k.slabs
slab_at-within k i s is =
    elim (cases_lt i (length k.slabs)) [
      | inl within ↦ within
      | inr past ↦ absurd (none_some s (sym (get_or_past k.slabs i None past) ∙ is))
    ]

-- the slab and the place of a number
pub slab_of-number : (c i q : ℕ) → q < c → (i * c + q) / c ≡ i
slab_of-number c i q below = digits_div i below

pub place_of-number : (c i q : ℕ) → q < c → (i * c + q) % c ≡ q
place_of-number c i q below = digits_mod i below

-- another number of the same slab has another place
pub other_place : (c i q n : ℕ) → n ≢ i * c + q → n / c ≡ i → n % c ≢ q
other_place c i q n other slab place = other (sym (div-add-mod' n c) ∙ rw (slab, place) refl)

-- the place of a number that is made of a slab's index and a place
pub place_at-number : (k : KegPlaces) (i q : ℕ) (s : Slab) → slab_at k i ≡ Some s → q < k.per_slab → place_at k (i * k.per_slab + q) ≡ slice_get s.free q
place_at-number k i q s in_keg below =
    let in_slab : slab_at k ((i * k.per_slab + q) / k.per_slab) ≡ Some s = rw (slab_of-number k.per_slab i q below) in_keg in
    place_at-in k (i * k.per_slab + q) s in_slab ∙ ap (slice_get s.free) (place_of-number k.per_slab i q below)

-- a lower number of the same slab has a lower place
pub lower_place : (c i q n : ℕ) → n < i * c + q → n / c ≡ i → n % c < q
lower_place c i q n lower slab =
    let number : n / c * c + n % c ≡ n = div-add-mod' n c in
    let same : i * c + n % c ≡ n = rw (← slab) number in
    omega arith

-- a place that is free, and one whose slab isn't in, is no number out
pub free_isnt_out : (k : KegPlaces) (n : ℕ) → IsFree k n → IsOut k n → ⊥
free_isnt_out k n free out = cc

pub absent_isnt_out : (k : KegPlaces) (n : ℕ) → place_at k n ≡ None → IsOut k n → ⊥
absent_isnt_out k n absent out = cc
