-- A keg with one place of one slab changed.
use Rattle.std.proofs.Common.{◌≡◌, ◌≢◌, ℕ, ◌+◌, ◌*◌, ◌/◌, ◌%◌, ◌<◌, Bool, true, false, not, cond, length, set, Option, Some, None, is_some, sum_by, arith, refl, sym, inl, inr, ◌∙◌}
use Rattle.std.specs.List.{slice_get}
use Rattle.std.proofs.lemmas.Bool.{cases_eq}
use Rattle.std.proofs.lemmas.List.{get_or-set_same, get_or-set_other, length-set}
use Rattle.std.proofs.lemmas.List.Sums.{sum_by-set}
use Rattle.uma_slabs.specs.Places.{KegPlaces, Slab, slab_at, place_at, places_by, slab_count, free_count, out_count, KeepsSlabs, KeepsOthers, CountsOneOut}
use Rattle.uma_slabs.proofs.Marks.{count_freed, count_used, free_and_used, slice_get-set_same, slice_get-set_other}
use Rattle.uma_slabs.proofs.Slabs.{place_at-in, place_at-same, domain_at-in, domain_at-same, slab_at-within, slab_of-number, place_of-number, other_place}

-- the slab and the keg with place q set to b
abbrev pub slab_put : Slab → ℕ → Bool → Slab
slab_put s q b = record s { free = set s.free q b }

abbrev pub put : KegPlaces → ℕ → ℕ → Slab → Bool → KegPlaces
put k i q s b = record k { slabs = set k.slabs i (Some (slab_put s q b)) }

-- the slab of index i is s, which has place q
pub record IsPlace (k : KegPlaces) (i q : ℕ) (s : Slab) : Type 0 where
  pub in_keg : slab_at k i ≡ Some s
  pub within : q < k.per_slab
  pub places : length s.free ≡ k.per_slab

pub slab_at-put : (k : KegPlaces) (i q : ℕ) (s : Slab) (b : Bool) → IsPlace k i q s → slab_at (put k i q s b) i ≡ Some (slab_put s q b)
slab_at-put k i q s b here = get_or-set_same k.slabs i (Some (slab_put s q b)) None (slab_at-within k i s here.in_keg)

pub slab_at-put_other : (k : KegPlaces) (i q : ℕ) (s : Slab) (b : Bool) (j : ℕ) → j ≢ i → slab_at (put k i q s b) j ≡ slab_at k j
slab_at-put_other k i q s b j other = get_or-set_other k.slabs i j (Some (slab_put s q b)) None other

-- the place reads as it was set
pub place_at-put : (k : KegPlaces) (i q : ℕ) (s : Slab) (b : Bool) → IsPlace k i q s → place_at (put k i q s b) (i * k.per_slab + q) ≡ Some b
place_at-put k i q s b here =
    let n = i * k.per_slab + q in
    let in_slab : slab_at (put k i q s b) (n / k.per_slab) ≡ Some (slab_put s q b) = rw (slab_of-number k.per_slab i q here.within) (slab_at-put k i q s b here) in
    let at : n % k.per_slab ≡ q = place_of-number k.per_slab i q here.within in
    let room : q < length s.free = rw here.places here.within in
    place_at-in (put k i q s b) n (slab_put s q b) in_slab ∙ rw at (slice_get-set_same s.free q b room)

-- each other place, and each slab, is as before
pub KeepsOthers-put : (k : KegPlaces) (i q : ℕ) (s : Slab) (b : Bool) → IsPlace k i q s → KeepsOthers k (i * k.per_slab + q) (put k i q s b)
KeepsOthers-put k i q s b here other ne =
    elim (cases_eq (other / k.per_slab) i) [
      | inl slab ↦
          let new : slab_at (put k i q s b) (other / k.per_slab) ≡ Some (slab_put s q b) = rw slab (slab_at-put k i q s b here) in
          let old : slab_at k (other / k.per_slab) ≡ Some s = rw slab here.in_keg in
          place_at-in (put k i q s b) other (slab_put s q b) new
          ∙ slice_get-set_other s.free q (other % k.per_slab) b (other_place k.per_slab i q other ne slab)
          ∙ sym (place_at-in k other s old)
      | inr slab ↦ place_at-same k (put k i q s b) other refl (slab_at-put_other k i q s b (other / k.per_slab) slab)
    ]

pub KeepsSlabs-put : (k : KegPlaces) (i q : ℕ) (s : Slab) (b : Bool) → IsPlace k i q s → KeepsSlabs k (put k i q s b)
KeepsSlabs-put k i q s b here = record {
  per_slab = refl;
  cap = refl;
  made = refl;
  domains = λ j.
      elim (cases_eq j i) [
        | inl same ↦ rw same (domain_at-in (put k i q s b) i (slab_put s q b) (slab_at-put k i q s b here) ∙ sym (domain_at-in k i s here.in_keg))
        | inr other ↦ domain_at-same k (put k i q s b) j (slab_at-put_other k i q s b j other)
      ];
}

-- a sum over the slabs changes by the terms of that slab
pub sum_by-put : (f : Option Slab → ℕ) (k : KegPlaces) (i q : ℕ) (s : Slab) (b : Bool) → IsPlace k i q s → sum_by f (put k i q s b).slabs + f (Some s) ≡ sum_by f k.slabs + f (Some (slab_put s q b))
sum_by-put f k i q s b here =
    rw (← here.in_keg) (sum_by-set f k.slabs i (Some (slab_put s q b)) None (slab_at-within k i s here.in_keg))

pub CountsOneOut-take : (k : KegPlaces) (i q : ℕ) (s : Slab) → IsPlace k i q s → slice_get s.free q ≡ Some true → CountsOneOut k (put k i q s false)
unfolding slab_count free_count out_count
CountsOneOut-take k i q s here free =
    let one = count_used s.free q free in
    let before = free_and_used s.free in
    let after = free_and_used (set s.free q false) in
    let len : length (set s.free q false) ≡ length s.free = length-set s.free q false in
    record {
      slabs = omega (arith, sum_by-put (λ (o : Option Slab). cond (is_some o) 1 0) k i q s false here);
      free = omega (arith, one, sum_by-put (places_by (λ free. free)) k i q s false here);
      out = omega (arith, one, before, after, len, sum_by-put (places_by not) k i q s false here);
    }

pub CountsOneOut-give : (k : KegPlaces) (i q : ℕ) (s : Slab) → IsPlace k i q s → slice_get s.free q ≡ Some false → CountsOneOut (put k i q s true) k
unfolding slab_count free_count out_count
CountsOneOut-give k i q s here used =
    let one = count_freed s.free q used in
    let before = free_and_used s.free in
    let after = free_and_used (set s.free q true) in
    let len : length (set s.free q true) ≡ length s.free = length-set s.free q true in
    record {
      slabs = omega (arith, sum_by-put (λ (o : Option Slab). cond (is_some o) 1 0) k i q s true here);
      free = omega (arith, one, sum_by-put (places_by (λ free. free)) k i q s true here);
      out = omega (arith, one, before, after, len, sum_by-put (places_by not) k i q s true here);
    }
