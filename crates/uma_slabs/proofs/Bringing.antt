-- A keg with one slab more.
use Rattle.std.proofs.Common.{◌≡◌, ◌≢◌, ◌↔◌, ℕ, ◌+◌, ◌*◌, ◌/◌, ◌%◌, ◌<◌, Bool, true, false, not, cond, length, set, replicate, Option, Some, None, IsSome, is_some, sum_by, arith, refl, sym, ap, inl, inr, ◌∙◌}
use Rattle.std.specs.List.{slice_get}
use Rattle.std.proofs.Math.Nat.{mod-lt, div-lt_iff_lt-mul}
use Rattle.std.proofs.lemmas.Bool.{cases_eq}
use Rattle.std.proofs.lemmas.List.{get_or-set_same, get_or-set_other, length-replicate, get_or-replicate}
use Rattle.std.proofs.lemmas.List.Sums.{sum_by-set}
use Rattle.std.proofs.lemmas.List.Folds.{sum_by-replicate}
use Rattle.std.proofs.lemmas.Option.{slice_get-get_or}
use Rattle.uma_slabs.specs.Places.{KegPlaces, Slab, slab_at, place_at, places_by, slab_count, free_count, out_count, IsIn, IsFree, IsOut, IsSound, CountsOneSlab, Brings}
use Rattle.uma_slabs.proofs.Marks.{count_less}
use Rattle.uma_slabs.proofs.Slabs.{free_isnt_out, absent_isnt_out, place_at-in, place_at-absent, place_at-same, domain_at-in, domain_at-absent, domain_at-same}

-- a wholly free slab, and the keg with it
abbrev pub free_slab : ℕ → ℕ → Slab
free_slab d places = record { domain = d; free = replicate places true }

abbrev pub brought : KegPlaces → ℕ → ℕ → KegPlaces
brought k d i = record k { made = k.made + 1; slabs = set k.slabs i (Some (free_slab d k.per_slab)) }

-- index i may be brought in: it is the least that isn't in
pub record IsNext (k : KegPlaces) (i : ℕ) : Type 0 where
  pub within : i < length k.slabs
  pub cap : length k.slabs ≡ k.cap
  pub absent : slab_at k i ≡ None
  pub least : (lower : ℕ) → lower < i → IsIn k lower

slice_get-replicate : (places q : ℕ) (b : Bool) → q < places → slice_get (replicate places b) q ≡ Some b
slice_get-replicate places q b below =
    let len = length-replicate places b in
    slice_get-get_or (replicate places b) q b (omega arith) ∙ ap Some (get_or-replicate places q b b below)

slab_at-brought : (k : KegPlaces) (d i : ℕ) → IsNext k i → slab_at (brought k d i) i ≡ Some (free_slab d k.per_slab)
slab_at-brought k d i next = get_or-set_same k.slabs i (Some (free_slab d k.per_slab)) None next.within

slab_at-other : (k : KegPlaces) (d i j : ℕ) → j ≢ i → slab_at (brought k d i) j ≡ slab_at k j
slab_at-other k d i j other = get_or-set_other k.slabs i j (Some (free_slab d k.per_slab)) None other

free_brought : (k : KegPlaces) (d i : ℕ) → IsNext k i → IsSound k → (n : ℕ) → n / k.per_slab ≡ i → IsFree (brought k d i) n
free_brought k d i next sound n here =
    let in_slab : slab_at (brought k d i) (n / k.per_slab) ≡ Some (free_slab d k.per_slab) = rw here (slab_at-brought k d i next) in
    place_at-in (brought k d i) n (free_slab d k.per_slab) in_slab ∙ slice_get-replicate k.per_slab (n % k.per_slab) true (mod-lt n sound.some_place)

places_other : (k : KegPlaces) (d i n : ℕ) → n / k.per_slab ≢ i → place_at (brought k d i) n ≡ place_at k n
places_other k d i n other = place_at-same k (brought k d i) n refl (slab_at-other k d i (n / k.per_slab) other)

pub brings_next : (k : KegPlaces) (d i : ℕ) → IsNext k i → IsSound k → Brings k d i (brought k d i)
brings_next k d i next sound = record {
  within = rw (← next.cap) next.within;
  absent = domain_at-absent k i next.absent;
  least = next.least;
  domain = domain_at-in (brought k d i) i (free_slab d k.per_slab) (slab_at-brought k d i next);
  free = free_brought k d i next sound;
  other_slabs = λ j other. domain_at-same k (brought k d i) j (slab_at-other k d i j other);
  other_places = places_other k d i;
  per_slab = refl;
  cap = refl;
  made = refl;
}

-- a sum over the slabs gains the new slab's term
sum_by-brought : (f : Option Slab → ℕ) (k : KegPlaces) (d i : ℕ) → IsNext k i → sum_by f (brought k d i).slabs + f None ≡ sum_by f k.slabs + f (Some (free_slab d k.per_slab))
sum_by-brought f k d i next = rw (← next.absent) (sum_by-set f k.slabs i (Some (free_slab d k.per_slab)) None next.within)

counts_brought : (k : KegPlaces) (d i : ℕ) → IsNext k i → CountsOneSlab k (brought k d i)
unfolding slab_count free_count out_count
counts_brought k d i next = record {
  slabs = omega (arith, sum_by-brought (λ (o : Option Slab). cond (is_some o) 1 0) k d i next);
  free = omega (arith, sum_by-replicate (λ (b : Bool). cond b 1 0) k.per_slab true, sum_by-brought (places_by (λ free. free)) k d i next);
  out = omega (arith, sum_by-replicate (λ (b : Bool). cond (not b) 1 0) k.per_slab true, sum_by-brought (places_by not) k d i next);
}

-- not all slabs are in
pub room_for-next : (k : KegPlaces) (i : ℕ) → IsNext k i → slab_count k < k.cap
unfolding slab_count
room_for-next k i next =
    let fails : is_some (slab_at k i) ≡ false = rw next.absent refl in
    let less = count_less (is_some {T = Slab}) k.slabs i None next.within fails in
    rw (← next.cap) less

-- the new slab's numbers aren't out
outs_brought : (k : KegPlaces) (d i : ℕ) → IsNext k i → IsSound k → (n : ℕ) → IsOut (brought k d i) n ↔ IsOut k n
outs_brought k d i next sound n =
    elim (cases_eq (n / k.per_slab) i) [
      | inl here ↦ (
        λ is. absurd (free_isnt_out (brought k d i) n (free_brought k d i next sound n here) is),
        λ is. absurd (absent_isnt_out k n (place_at-absent k n (rw here next.absent)) is),
      )
      | inr other ↦ (λ is. sym (places_other k d i n other) ∙ is, λ is. places_other k d i n other ∙ is)
    ]

numbers_brought : (k : KegPlaces) (d i : ℕ) → IsNext k i → IsSound k → (n : ℕ) → IsSome (place_at (brought k d i) n) → n < k.cap * k.per_slab
numbers_brought k d i next sound n some =
    elim (cases_eq (n / k.per_slab) i) [
      | inl here ↦ (let below : n / k.per_slab < k.cap = rw (here, ← next.cap) next.within in (div-lt_iff_lt-mul sound.some_place).0 below)
      | inr other ↦ sound.numbers n (rw (← places_other k d i n other) some)
    ]

whole_brought : (k : KegPlaces) (d i : ℕ) → IsNext k i → IsSound k → (n : ℕ) → IsIn (brought k d i) (n / k.per_slab) → IsSome (place_at (brought k d i) n)
whole_brought k d i next sound n in_new =
    elim (cases_eq (n / k.per_slab) i) [
      | inl here ↦ rw (free_brought k d i next sound n here) refl
      | inr other ↦
          let same = domain_at-same k (brought k d i) (n / k.per_slab) (slab_at-other k d i (n / k.per_slab) other) in
          let in_old : IsIn k (n / k.per_slab) = rw (← same) in_new in
          rw (places_other k d i n other) (sound.whole n in_old)
    ]

sound_brought : (k : KegPlaces) (d i : ℕ) → IsNext k i → IsSound k → IsSound (brought k d i)
sound_brought k d i next sound =
    let counts = counts_brought k d i next in
    let room = room_for-next k i next in
    let more : slab_count (brought k d i) * k.per_slab ≡ slab_count k * k.per_slab + k.per_slab = rw counts.slabs (omega arith) in
    record {
      some_place = sound.some_place;
      few_places = sound.few_places;
      some_slab = sound.some_slab;
      few_slabs = sound.few_slabs;
      slabs = omega arith;
      places = omega (arith, more);
      whole = whole_brought k d i next sound;
      numbers = numbers_brought k d i next sound;
      made = omega arith;
    }

-- what a bring makes of a keg
pub record BringsIn (old : KegPlaces) (d i : ℕ) (new : KegPlaces) : Type 0 where
  pub brings : Brings old d i new
  pub counts : CountsOneSlab old new
  pub outs : (n : ℕ) → IsOut new n ↔ IsOut old n
  pub room : slab_count old < old.cap
  pub sound : IsSound new

pub brings_in : (k : KegPlaces) (d i : ℕ) → IsNext k i → IsSound k → BringsIn k d i (brought k d i)
brings_in k d i next sound = record {
  brings = brings_next k d i next sound;
  counts = counts_brought k d i next;
  outs = outs_brought k d i next sound;
  room = room_for-next k i next;
  sound = sound_brought k d i next sound;
}
