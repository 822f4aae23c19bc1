-- What lies behind the lock stays sound as a number goes out with a base or comes home.
use Rattle.std.proofs.Common.{◌≡◌, ◌≤◌, ◌+◌, ◌==◌, ℕ, zero, suc, false, List, [], ◌∷◌, Option, Some, None, map, replicate, set, refl, ap, ◌∙◌, inl, inr, subst, arith, eq-eqb}
use Rattle.std.specs.Prelude.{slice_get, option_map}
use Rattle.std.proofs.lemmas.Bool.Decides.{eqb_tells}
use Rattle.std.proofs.lemmas.Option.{slice_get-map}
use Rattle.uma_zcache.specs.Bases.{times, Has, Gains, Loses}
use Rattle.uma_zcache.specs.Entries.{has_base, numbers_with}
use Rattle.uma_zcache.specs.Locked.{zone_with}
use Rattle.uma_zcache.proofs.Counts.{one, one_yes, one_no, times_cons, count_set, count_some, count_replicate}

-- the zones of a book beside the entries
pub zones_home : (zones entries : List (Option ℕ)) (n : ℕ) → zones ≡ map zone_with entries → slice_get entries n ≡ Some None → slice_get zones n ≡ Some None
zones_home zones entries n same home = ap (λ (l : List (Option ℕ)). slice_get l n) same ∙ slice_get-map zone_with entries n ∙ ap (option_map zone_with) home

pub map_set : (entries : List (Option ℕ)) (n : ℕ) (e : Option ℕ) → set (map zone_with entries) n (zone_with e) ≡ map zone_with (set entries n e)
map_set [] n e = refl
map_set (x ∷ xs) zero e = refl
map_set (x ∷ xs) (suc n) e = ap (λ (l : List (Option ℕ)). zone_with x ∷ l) (map_set xs n e)

pub zones_set : (zones entries : List (Option ℕ)) (n : ℕ) (e : Option ℕ) → zones ≡ map zone_with entries → set zones n (zone_with e) ≡ map zone_with (set entries n e)
zones_set zones entries n e same = ap (λ (l : List (Option ℕ)). set l n (zone_with e)) same ∙ map_set entries n e

pub zones_new : (n : ℕ) → replicate n (let o : Option ℕ = None in o) ≡ map zone_with (replicate n None)
zones_new zero = refl
zones_new (suc n) = ap (λ (l : List (Option ℕ)). None ∷ l) (zones_new n)

-- how many numbers have a base
pub with_out : (entries : List (Option ℕ)) (n base b : ℕ) → slice_get entries n ≡ Some None → numbers_with b (set entries n (Some base)) ≡ numbers_with b entries + one (base == b)
with_out entries n base b home =
    let counted : numbers_with b (set entries n (Some base)) + one false ≡ numbers_with b entries + one (base == b) = count_set (has_base b) entries n None (Some base) home in
    omega (arith, counted, one_no false refl)

pub with_home : (entries : List (Option ℕ)) (n base b : ℕ) → slice_get entries n ≡ Some (Some base) → numbers_with b (set entries n None) + one (base == b) ≡ numbers_with b entries
with_home entries n base b out =
    let counted : numbers_with b (set entries n None) + one (base == b) ≡ numbers_with b entries + one false = count_set (has_base b) entries n (Some base) None out in
    omega (arith, counted, one_no false refl)

pub exact_out : (entries : List (Option ℕ)) (old new : List ℕ) (n base : ℕ) → ((b : ℕ) → numbers_with b entries ≡ times b old) → slice_get entries n ≡ Some None → Gains old base new → (b : ℕ) → numbers_with b (set entries n (Some base)) ≡ times b new
exact_out entries old new n base exact home gains b = omega (arith, with_out entries n base b home, exact b, gains.each b, times_cons b base old)

pub distinct_out : (entries : List (Option ℕ)) (old new : List ℕ) (n base : ℕ) → ((b : ℕ) → numbers_with b entries ≤ 1) → ((b : ℕ) → numbers_with b entries ≡ times b old) → slice_get entries n ≡ Some None → Gains old base new → (b : ℕ) → numbers_with b (set entries n (Some base)) ≤ 1
distinct_out entries old new n base distinct exact home gains b =
    elim (eqb_tells base b) [
      | inl (is, same) ↦
          let was : times b old ≡ 0 = subst (λ (m : ℕ). times m old ≡ 0) same gains.was_not in
          omega (arith, with_out entries n base b home, exact b, was, one_yes (base == b) is)
      | inr (is, other) ↦ omega (arith, with_out entries n base b home, distinct b, one_no (base == b) is)
    ]

pub was_outside : (entries : List (Option ℕ)) (old : List ℕ) (n base : ℕ) → ((b : ℕ) → numbers_with b entries ≡ times b old) → slice_get entries n ≡ Some (Some base) → Has old base
was_outside entries old n base exact out =
    let some : 1 ≤ numbers_with base entries = count_some (has_base base) entries n (Some base) out (eq-eqb base base refl) in
    omega (arith, some, exact base)

pub exact_home : (entries : List (Option ℕ)) (old new : List ℕ) (n base : ℕ) → ((b : ℕ) → numbers_with b entries ≡ times b old) → slice_get entries n ≡ Some (Some base) → Loses old base new → (b : ℕ) → numbers_with b (set entries n None) ≡ times b new
exact_home entries old new n base exact out loses b = omega (arith, with_home entries n base b out, exact b, loses.each b, times_cons b base new)

pub distinct_home : (entries : List (Option ℕ)) (n base : ℕ) → ((b : ℕ) → numbers_with b entries ≤ 1) → slice_get entries n ≡ Some (Some base) → (b : ℕ) → numbers_with b (set entries n None) ≤ 1
distinct_home entries n base distinct out b = omega (arith, with_home entries n base b out, distinct b)

-- no number has a base where all are at home
pub none_with : (n b : ℕ) → numbers_with b (replicate n None) ≡ 0
none_with n b = count_replicate (has_base b) n refl
