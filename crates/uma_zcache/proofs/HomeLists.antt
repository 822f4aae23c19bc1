-- The list of the numbers at home, as numbers go out and come home.
use Rattle.std.proofs.Common.{◌≡◌, ◌≤◌, ◌<◌, ◌+◌, ℕ, true, false, List, [], ◌∷◌, ◌++◌, Option, Some, None, length, replicate, set, refl, sym, ap, ◌∙◌, inl, inr, subst, arith, length-append}
use Rattle.std.specs.Prelude.{slice_get, is_some}
use Rattle.std.proofs.lemmas.Bool.{cases_lt}
use Rattle.std.proofs.lemmas.Bool.Decides.{eqb_tells}
use Rattle.std.proofs.lemmas.List.{length-set, length-replicate}
use Rattle.std.proofs.lemmas.Option.{slice_get_past}
use Rattle.uma_zcache.specs.Bases.{times}
use Rattle.uma_zcache.specs.Entries.{out_of}
use Rattle.uma_zcache.specs.HomeList.{home_once, Lists}
use Rattle.uma_zcache.proofs.Counts.{one, one_yes, one_no, times_push_same, times_push_other, count_set, home_listed, home_at, out_at, get_replicate, count_replicate, get_set_here, get_set_else}

pub lists_all : (numbers : ℕ) (home : List ℕ) (room : ℕ) → numbers ≤ 262144 → numbers ≤ room → length home ≡ numbers → ((number : ℕ) → number < numbers → times number home ≡ 1) → ((number : ℕ) → numbers ≤ number → times number home ≡ 0) → Lists (replicate numbers None) home room
lists_all numbers home room few fit all listed others =
    let long : length (replicate numbers (let o : Option ℕ = None in o)) ≡ numbers = length-replicate numbers None in
    record {
      all_fit = omega (arith, long, fit);
      few = omega (arith, long, few);
      once = λ number. elim (cases_lt number numbers) [
        | inl below ↦ listed number below ∙ sym (home_at _ (get_replicate numbers number below))
        | inr past ↦ others number past ∙ sym (ap home_once (slice_get_past (replicate numbers None) number (omega (arith, long, past))))
      ];
      all = omega (arith, long, all, count_replicate is_some numbers refl);
    }

-- the number listed last is at home
pub last_is_home : (entries : List (Option ℕ)) (home left : List ℕ) (room n : ℕ) → Lists entries home room → home ≡ left ++ n ∷ [] → slice_get entries n ≡ Some None
last_is_home entries home left room n lists last =
    let listed : times n home ≡ times n left + 1 = ap (times n) last ∙ times_push_same n left n refl in
    home_listed (slice_get entries n) (omega (arith, lists.once n, listed))

pub lists_out : (entries : List (Option ℕ)) (home left : List ℕ) (room n base : ℕ) → Lists entries home room → home ≡ left ++ n ∷ [] → Lists (set entries n (Some base)) left room
lists_out entries home left room n base lists last =
    let at : slice_get entries n ≡ Some None = last_is_home entries home left room n lists last in
    let long = length-set entries n (Some base) in
    let counted : out_of (set entries n (Some base)) + one false ≡ out_of entries + one true = count_set is_some entries n None (Some base) at in
    let shorter : length home ≡ length left + 1 = ap length last ∙ length-append left (n ∷ []) in
    record {
      all_fit = omega (arith, long, lists.all_fit);
      few = omega (arith, long, lists.few);
      once = λ number. elim (eqb_tells n number) [
        | inl (is, same) ↦
            let here : times number home ≡ times number left + 1 = ap (times number) last ∙ times_push_same number left n same in
            let was : home_once (slice_get entries number) ≡ 1 = subst (λ (m : ℕ). home_once (slice_get entries m) ≡ 1) same (home_at _ at) in
            let gone : times number left ≡ 0 = omega (arith, here, was, lists.once number) in
            gone ∙ sym (subst (λ (m : ℕ). home_once (slice_get (set entries n (Some base)) m) ≡ 0) same (out_at _ base (get_set_here entries n (Some base) None at)))
        | inr (is, other) ↦
            sym (ap (times number) last ∙ times_push_other number left n other) ∙ lists.once number ∙ ap home_once (sym (get_set_else entries n number (Some base) (λ e. other (sym e))))
      ];
      all = omega (arith, long, lists.all, shorter, counted, one_yes true refl, one_no false refl);
    }

-- there is room for a number that comes home
pub has_room : (entries : List (Option ℕ)) (home : List ℕ) (room n base : ℕ) → Lists entries home room → slice_get entries n ≡ Some (Some base) → length home < room
has_room entries home room n base lists at =
    let counted : out_of (set entries n None) + one true ≡ out_of entries + one false = count_set is_some entries n (Some base) None at in
    omega (arith, lists.all, lists.all_fit, counted, one_yes true refl, one_no false refl)

pub lists_home : (entries : List (Option ℕ)) (home : List ℕ) (room n base : ℕ) → Lists entries home room → slice_get entries n ≡ Some (Some base) → Lists (set entries n None) (home ++ n ∷ []) room
lists_home entries home room n base lists at =
    let long = length-set entries n None in
    let counted : out_of (set entries n None) + one true ≡ out_of entries + one false = count_set is_some entries n (Some base) None at in
    let longer : length (home ++ n ∷ []) ≡ length home + 1 = length-append home (n ∷ []) in
    record {
      all_fit = omega (arith, long, lists.all_fit);
      few = omega (arith, long, lists.few);
      once = λ number. elim (eqb_tells n number) [
        | inl (is, same) ↦
            let was : home_once (slice_get entries number) ≡ 0 = subst (λ (m : ℕ). home_once (slice_get entries m) ≡ 0) same (out_at _ base at) in
            let now : home_once (slice_get (set entries n None) number) ≡ 1 = subst (λ (m : ℕ). home_once (slice_get (set entries n None) m) ≡ 1) same (home_at _ (get_set_here entries n None (Some base) at)) in
            omega (arith, times_push_same number home n same, was, now, lists.once number)
        | inr (is, other) ↦
            times_push_other number home n other ∙ lists.once number ∙ ap home_once (sym (get_set_else entries n number None (λ e. other (sym e))))
      ];
      all = omega (arith, long, lists.all, longer, counted, one_yes true refl, one_no false refl);
    }
