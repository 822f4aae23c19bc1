-- A keg with one slab less.
use Rattle.std.proofs.Common.{◌≡◌, ◌≢◌, ◌↔◌, ℕ, ◌+◌, ◌*◌, ◌/◌, ◌%◌, ◌^◌, ◌<◌, ◌≤◌, Bool, true, false, not, cond, List, length, set, get_or, Option, Some, None, IsSome, is_some, sum_by, count_by, arith, refl, sym, ap, inl, inr, ◌∙◌}
use Rattle.std.specs.List.{slice_get}
use Rattle.std.proofs.Math.Nat.{mod-lt}
use Rattle.std.proofs.lemmas.Bool.{cases_eq, cases_Bool}
use Rattle.std.proofs.lemmas.List.{get_or-set_same, get_or-set_other}
use Rattle.std.proofs.lemmas.List.Sums.{sum_by-set}
use Rattle.std.proofs.lemmas.Option.{slice_get-get_or}
use Rattle.uma_slabs.specs.Dropping.{IsWhollyFree, Drops}
use Rattle.uma_slabs.specs.Places.{KegPlaces, Slab, slab_at, place_at, domain_at, places_by, slab_count, free_count, out_count, IsIn, IsFree, IsOut, IsSound, CountsOneSlab}
use Rattle.uma_slabs.proofs.Marks.{count_less, free_and_used}
use Rattle.uma_slabs.proofs.Slabs.{free_isnt_out, absent_isnt_out, place_at-in, place_at-absent, place_at-same, domain_at-in, domain_at-absent, domain_at-same}

-- the keg without the slab of this index
abbrev pub dropped : KegPlaces → ℕ → KegPlaces
dropped k i = record k { slabs = set k.slabs i None }

-- the slab of index i is s, all of whose places are free
pub record IsWholeSlab (k : KegPlaces) (i : ℕ) (s : Slab) : Type 0 where
  pub within : i < length k.slabs
  pub cap : length k.slabs ≡ k.cap
  pub in_keg : slab_at k i ≡ Some s
  pub long : length s.free ≡ k.per_slab
  pub all : count_by (λ b. b) s.free ≡ length s.free

slab_at-dropped : (k : KegPlaces) (i : ℕ) → i < length k.slabs → slab_at (dropped k i) i ≡ None
slab_at-dropped k i within = get_or-set_same k.slabs i None None within

slab_at-kept : (k : KegPlaces) (i j : ℕ) → j ≢ i → slab_at (dropped k i) j ≡ slab_at k j
slab_at-kept k i j other = get_or-set_other k.slabs i j None None other

-- where as many are free as there are, each is
each_free : (free : List Bool) → count_by (λ b. b) free ≡ length free → (q : ℕ) → q < length free → slice_get free q ≡ Some true
each_free free all q within =
    slice_get-get_or free q false within
    ∙ ap Some
    (elim (cases_Bool (get_or free q false)) [
      | inl free_there ↦ free_there
      | inr used ↦ absurd (let less = count_less (λ (b : Bool). b) free q false within used in omega arith)
    ])

free_whole : (k : KegPlaces) (i : ℕ) (s : Slab) → IsWholeSlab k i s → 1 ≤ k.per_slab → (n : ℕ) → n / k.per_slab ≡ i → IsFree k n
free_whole k i s whole some n here =
    let in_slab : slab_at k (n / k.per_slab) ≡ Some s = rw here whole.in_keg in
    let below : n % k.per_slab < length s.free = rw whole.long (mod-lt n some) in
    place_at-in k n s in_slab ∙ each_free s.free whole.all (n % k.per_slab) below

pub IsWhollyFree-whole : (k : KegPlaces) (i : ℕ) (s : Slab) → IsWholeSlab k i s → 1 ≤ k.per_slab → IsWhollyFree k i
IsWhollyFree-whole k i s whole some = record {
  is_in = rw (domain_at-in k i s whole.in_keg) refl;
  free = free_whole k i s whole some;
}

nowhere : (k : KegPlaces) (i n : ℕ) → i < length k.slabs → n / k.per_slab ≡ i → place_at (dropped k i) n ≡ None
nowhere k i n within here = place_at-absent (dropped k i) n (rw here (slab_at-dropped k i within))

places_other : (k : KegPlaces) (i n : ℕ) → n / k.per_slab ≢ i → place_at (dropped k i) n ≡ place_at k n
places_other k i n other = place_at-same k (dropped k i) n refl (slab_at-kept k i (n / k.per_slab) other)

-- a sum over the slabs loses that slab's term
sum_by-dropped : (f : Option Slab → ℕ) (k : KegPlaces) (i : ℕ) (s : Slab) → IsWholeSlab k i s → sum_by f (dropped k i).slabs + f (Some s) ≡ sum_by f k.slabs + f None
sum_by-dropped f k i s whole = rw (← whole.in_keg) (sum_by-set f k.slabs i None None whole.within)

counts_dropped : (k : KegPlaces) (i : ℕ) (s : Slab) → IsWholeSlab k i s → CountsOneSlab (dropped k i) k
unfolding slab_count free_count out_count
counts_dropped k i s whole =
    let all = whole.all in
    let long = whole.long in
    let each = free_and_used s.free in
    record {
      slabs = omega (arith, sum_by-dropped (λ (o : Option Slab). cond (is_some o) 1 0) k i s whole);
      free = omega (arith, all, long, sum_by-dropped (places_by (λ free. free)) k i s whole);
      out = omega (arith, all, each, sum_by-dropped (places_by not) k i s whole);
    }

-- the slab's numbers aren't out, before or after
outs_dropped : (k : KegPlaces) (i : ℕ) (s : Slab) → IsWholeSlab k i s → 1 ≤ k.per_slab → (n : ℕ) → IsOut (dropped k i) n ↔ IsOut k n
outs_dropped k i s whole some n =
    elim (cases_eq (n / k.per_slab) i) [
      | inl here ↦ (
        λ is. absurd (absent_isnt_out (dropped k i) n (nowhere k i n whole.within here) is),
        λ is. absurd (free_isnt_out k n (free_whole k i s whole some n here) is),
      )
      | inr other ↦ (λ is. sym (places_other k i n other) ∙ is, λ is. places_other k i n other ∙ is)
    ]

no_some : {X : Type 0} (o : Option X) → o ≡ None → IsSome o → ⊥
no_some o none some = cc

numbers_dropped : (k : KegPlaces) (i : ℕ) (s : Slab) → IsWholeSlab k i s → IsSound k → (n : ℕ) → IsSome (place_at (dropped k i) n) → n < k.cap * k.per_slab
numbers_dropped k i s whole sound n some =
    elim (cases_eq (n / k.per_slab) i) [
      | inl here ↦ absurd (no_some (place_at (dropped k i) n) (nowhere k i n whole.within here) some)
      | inr other ↦ sound.numbers n (rw (← places_other k i n other) some)
    ]

whole_dropped : (k : KegPlaces) (i : ℕ) (s : Slab) → IsWholeSlab k i s → IsSound k → (n : ℕ) → IsIn (dropped k i) (n / k.per_slab) → IsSome (place_at (dropped k i) n)
whole_dropped k i s whole sound n in_new =
    elim (cases_eq (n / k.per_slab) i) [
      | inl here ↦
          let gone : domain_at (dropped k i) (n / k.per_slab) ≡ None = rw here (domain_at-absent (dropped k i) i (slab_at-dropped k i whole.within)) in
          absurd (no_some (domain_at (dropped k i) (n / k.per_slab)) gone in_new)
      | inr other ↦
          let same = domain_at-same k (dropped k i) (n / k.per_slab) (slab_at-kept k i (n / k.per_slab) other) in
          let in_old : IsIn k (n / k.per_slab) = rw (← same) in_new in
          rw (places_other k i n other) (sound.whole n in_old)
    ]

sound_dropped : (k : KegPlaces) (i : ℕ) (s : Slab) → IsWholeSlab k i s → IsSound k → k.made + k.cap ≤ 2 ^ 40 → IsSound (dropped k i)
sound_dropped k i s whole sound not_used =
    let counts = counts_dropped k i s whole in
    let less : slab_count k * k.per_slab ≡ slab_count (dropped k i) * k.per_slab + k.per_slab = rw counts.slabs (omega arith) in
    record {
      some_place = sound.some_place;
      few_places = sound.few_places;
      some_slab = sound.some_slab;
      few_slabs = sound.few_slabs;
      slabs = omega arith;
      places = omega (arith, less);
      whole = whole_dropped k i s whole sound;
      numbers = numbers_dropped k i s whole sound;
      made = omega arith;
    }

-- what the giving up of a slab makes of a keg
pub record DropsSlab (old : KegPlaces) (i : ℕ) (new : KegPlaces) : Type 0 where
  pub drops : Drops old i new
  pub counts : CountsOneSlab new old
  pub outs : (n : ℕ) → IsOut new n ↔ IsOut old n
  pub sound : IsSound new

pub drops_slab : (k : KegPlaces) (i : ℕ) (s : Slab) → IsWholeSlab k i s → IsSound k → k.made + k.cap ≤ 2 ^ 40 → ((other : ℕ) → i < other → IsWhollyFree k other → ⊥) → DropsSlab k i (dropped k i)
drops_slab k i s whole sound not_used greatest = record {
  drops = record {
    within = rw (← whole.cap) whole.within;
    whole = IsWhollyFree-whole k i s whole sound.some_place;
    greatest = greatest;
    absent = domain_at-absent (dropped k i) i (slab_at-dropped k i whole.within);
    nowhere = λ n here. nowhere k i n whole.within here;
    other_slabs = λ j other. domain_at-same k (dropped k i) j (slab_at-kept k i j other);
    other_places = places_other k i;
    per_slab = refl;
    cap = refl;
    made = refl;
  };
  counts = counts_dropped k i s whole;
  outs = outs_dropped k i s whole sound.some_place;
  sound = sound_dropped k i s whole sound not_used;
}
