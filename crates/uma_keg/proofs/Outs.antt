-- The counts of the numbers outside, where one number goes out or comes home.
use Rattle.std.proofs.Common.{◌≡◌, ◌≢◌, ◌≤◌, ◌<◌, ◌+◌, ◌-◌, ℕ, zero, suc, ◌==◌, inl, inr, cond, List, [], ◌∷◌, Option, Some, None, length, replicate, get_or, set, is_some, sum_by, count_by, ap, refl, arith, sym, ◌∙◌}
use Rattle.std.specs.List.{slice_get}
use Rattle.std.proofs.lemmas.Bool.{cases_eq}
use Rattle.std.proofs.lemmas.Bool.Decides.{nat_tests}
use Rattle.std.proofs.lemmas.List.{length-set, length-replicate, get_or-set_same, get_or-set_other}
use Rattle.std.proofs.lemmas.List.Folds.{sum_by-replicate}
use Rattle.std.proofs.lemmas.List.Sums.{sum_by-set, count_by-le-length}
use Rattle.std.proofs.lemmas.Option.{slice_get_within, get_or_from_slice_get}
use Rattle.uma_keg.specs.Outs.{is_in_zone, out_of, CountsOuts}

-- 1 for the zone itself, and 0 for the others
abbrev pub tick : ℕ → ℕ → ℕ
tick y zone = cond (y == zone) 1 0

pub out_issued : (zones : List (Option ℕ)) (n y zone : ℕ) → slice_get zones n ≡ Some None → out_of (set zones n (Some y)) zone ≡ out_of zones zone + tick y zone
unfolding out_of
out_issued zones n y zone is =
    let within = slice_get_within zones n None is in
    let value = get_or_from_slice_get zones n None None is in
    let counted = sum_by-set (λ (o : Option ℕ). cond (is_in_zone zone o) 1 0) zones n (Some y) None within in
    grind (arith, value, counted)

pub out_accepted : (zones : List (Option ℕ)) (n y zone : ℕ) → slice_get zones n ≡ Some (Some y) → out_of (set zones n None) zone + tick y zone ≡ out_of zones zone
unfolding out_of
out_accepted zones n y zone is =
    let within = slice_get_within zones n (Some y) is in
    let value = get_or_from_slice_get zones n (Some y) None is in
    let counted = sum_by-set (λ (o : Option ℕ). cond (is_in_zone zone o) 1 0) zones n None None within in
    grind (arith, value, counted)

pub out_few : (zones : List (Option ℕ)) (zone : ℕ) → length zones ≤ 262144 → out_of zones zone ≤ 262144
unfolding out_of
out_few zones zone few = omega (arith, count_by-le-length (is_in_zone zone) zones)

pub out_none : (n zone : ℕ) → out_of (replicate n None) zone ≡ 0
unfolding out_of
out_none n zone = sum_by-replicate (λ (o : Option ℕ). cond (is_in_zone zone o) 1 0) n None ∙ omega arith

pub tick_same : (y : ℕ) → tick y y ≡ 1
tick_same y = grind (arith, nat_tests)

pub tick_other : (y zone : ℕ) → zone ≢ y → tick y zone ≡ 0
tick_other y zone ne = grind (arith, nat_tests)

-- one count was changed as its zone's numbers were
changed : (zones now : List (Option ℕ)) (outs : List ℕ) (y v : ℕ) → CountsOuts zones outs → length now ≡ length zones → y < 8
    → v ≡ out_of now y → ((zone : ℕ) → zone ≢ y → out_of now zone ≡ out_of zones zone) → CountsOuts now (set outs y v)
changed zones now outs y v counted same within here others = record {
  few = omega (arith, counted.few);
  eight = length-set outs y v ∙ counted.eight;
  counts = λ zone below. elim (cases_eq zone y) [
    | inl same ↦ rw same (get_or-set_same outs y v 0 (omega (arith, counted.eight)) ∙ here)
    | inr other ↦ get_or-set_other outs y zone v 0 other ∙ counted.counts zone below ∙ sym (others zone other)
  ];
}

pub CountsOuts-issued : (zones : List (Option ℕ)) (outs : List ℕ) (n y : ℕ) → CountsOuts zones outs → y < 8 → slice_get zones n ≡ Some None
    → CountsOuts (set zones n (Some y)) (set outs y (get_or outs y 0 + 1))
CountsOuts-issued zones outs n y counted within is =
    changed zones (set zones n (Some y)) outs y (get_or outs y 0 + 1) counted (length-set zones n (Some y)) within
    (omega (arith, counted.counts y within, out_issued zones n y y is, tick_same y))
    (λ zone ne. omega (arith, out_issued zones n y zone is, tick_other y zone ne))

pub CountsOuts-accepted : (zones : List (Option ℕ)) (outs : List ℕ) (n y : ℕ) → CountsOuts zones outs → y < 8 → slice_get zones n ≡ Some (Some y)
    → CountsOuts (set zones n None) (set outs y (get_or outs y 0 - 1))
CountsOuts-accepted zones outs n y counted within is =
    changed zones (set zones n None) outs y (get_or outs y 0 - 1) counted (length-set zones n None) within
    (omega (arith, counted.counts y within, out_accepted zones n y y is, tick_same y))
    (λ zone ne. omega (arith, out_accepted zones n y zone is, tick_other y zone ne))

-- a number that is outside is counted
pub some_out : (zones : List (Option ℕ)) (n y : ℕ) → slice_get zones n ≡ Some (Some y) → 1 ≤ out_of zones y
some_out zones n y is = omega (arith, out_accepted zones n y y is, tick_same y)

no_count : (zone : ℕ) → get_or {A = ℕ} (0 ∷ 0 ∷ 0 ∷ 0 ∷ 0 ∷ 0 ∷ 0 ∷ 0 ∷ []) zone 0 ≡ 0
no_count zero = refl
no_count (suc zero) = refl
no_count (suc (suc zero)) = refl
no_count (suc (suc (suc zero))) = refl
no_count (suc (suc (suc (suc zero)))) = refl
no_count (suc (suc (suc (suc (suc zero))))) = refl
no_count (suc (suc (suc (suc (suc (suc zero)))))) = refl
no_count (suc (suc (suc (suc (suc (suc (suc zero))))))) = refl
no_count (suc (suc (suc (suc (suc (suc (suc (suc zone)))))))) = refl

-- no number is outside yet
pub CountsOuts-new : (numbers : ℕ) → numbers ≤ 262144 → CountsOuts (replicate numbers None) (0 ∷ 0 ∷ 0 ∷ 0 ∷ 0 ∷ 0 ∷ 0 ∷ 0 ∷ [])
CountsOuts-new numbers few = record {
  few = rw (length-replicate {A = Option ℕ} numbers None) few;
  eight = refl;
  counts = λ zone below. no_count zone ∙ sym (out_none numbers zone);
}

-- the eight counts together, where one number goes out or comes home

pub total_issued : (zones : List (Option ℕ)) (outs : List ℕ) (n y : ℕ) → sum_by (λ out. out) outs ≡ count_by is_some zones → y < length outs → slice_get zones n ≡ Some None → sum_by (λ out. out) (set outs y (get_or outs y 0 + 1)) ≡ count_by is_some (set zones n (Some y))
total_issued zones outs n y total within is =
    let in_zones = slice_get_within zones n None is in
    let value = get_or_from_slice_get zones n None None is in
    let counted = sum_by-set (λ (o : Option ℕ). cond (is_some o) 1 0) zones n (Some y) None in_zones in
    let summed = sum_by-set (λ (out : ℕ). out) outs y (get_or outs y 0 + 1) 0 within in
    let tick_of : Option ℕ → ℕ = λ o. cond (is_some o) 1 0 in
    let was : tick_of (get_or zones n None) ≡ 0 = ap tick_of value in
    omega (arith, total, counted, summed, was)

pub total_accepted : (zones : List (Option ℕ)) (outs : List ℕ) (n y : ℕ) → sum_by (λ out. out) outs ≡ count_by is_some zones → y < length outs → 1 ≤ get_or outs y 0 → slice_get zones n ≡ Some (Some y) → sum_by (λ out. out) (set outs y (get_or outs y 0 - 1)) ≡ count_by is_some (set zones n None)
total_accepted zones outs n y total within some is =
    let in_zones = slice_get_within zones n (Some y) is in
    let value = get_or_from_slice_get zones n (Some y) None is in
    let counted = sum_by-set (λ (o : Option ℕ). cond (is_some o) 1 0) zones n None None in_zones in
    let summed = sum_by-set (λ (out : ℕ). out) outs y (get_or outs y 0 - 1) 0 within in
    let tick_of : Option ℕ → ℕ = λ o. cond (is_some o) 1 0 in
    let was : tick_of (get_or zones n None) ≡ 1 = ap tick_of value in
    omega (arith, total, counted, summed, was, some)

pub total_new : (numbers : ℕ) → sum_by (λ out. out) (0 ∷ 0 ∷ 0 ∷ 0 ∷ 0 ∷ 0 ∷ 0 ∷ 0 ∷ []) ≡ count_by is_some (replicate {A = Option ℕ} numbers None)
total_new numbers = let none = sum_by-replicate (λ (o : Option ℕ). cond (is_some o) 1 0) numbers None in omega (arith, none)
