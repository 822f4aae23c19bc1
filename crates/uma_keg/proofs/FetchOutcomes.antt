-- How a fetch ends, by its numbers.
use Rattle.std.proofs.Common.{◌≡◌, ◌≤◌, ◌<◌, ◌+◌, ◌-◌, ◌⊎◌, inl, inr, ℕ, zero, suc, Bool, true, false, not, ◌&&◌, ◌==◌, nat_le, nat_lt, cond, min, refl, arith, sym, ap, subst, ◌∙◌}
use Rattle.std.proofs.lemmas.Bool.{cases_eq, cases_lt}
use Rattle.std.proofs.lemmas.Bool.Decides.{nat_tests}
use Rattle.zone_stats.specs.declared.refusal.Refusal.{Refusal}
use Rattle.zone_stats.specs.declared.refusal.Refusal.TheVariants.{AtLimit, Reserved, Full}
use Rattle.uma_keg.specs.Fetch.{Found, Wish, is_at_limit, free_with, IsEnough, IsNewSlabs, allowed, given, outcome_with, Outcome, Refuses, Gives, EndsAs, IsBelowLimit, FetchLaw}

not_none : (n : ℕ) → (n == 0) ≡ false → 0 < n
not_none n e = grind (arith, nat_tests)

at_most : (m n : ℕ) → nat_le m n ≡ true → m ≤ n
at_most m n e = grind (arith, nat_tests)

above : (m n : ℕ) → nat_lt m n ≡ true → m < n
above m n e = grind (arith, nat_tests)

same_number : (m n : ℕ) → (m == n) ≡ true → m ≡ n
same_number m n e = grind (arith, nat_tests)

both_true : (a b : Bool) → (a && b) ≡ true → (a ≡ true) × (b ≡ true)
both_true true true e = (refl, refl)
both_true true false e = absurd cc
both_true false b e = absurd cc

first_only : (a b : Bool) → (a && not b) ≡ true → (a ≡ true) × (b ≡ false)
first_only true false e = (refl, refl)
first_only true true e = absurd cc
first_only false b e = absurd cc

one_count : (found : Found) (slabs other : ℕ) → IsNewSlabs found slabs → IsNewSlabs found other → slabs ≡ other
one_count found slabs other a b = elim (cases_lt slabs other) [
  | inl lower ↦ absurd (b.least slabs lower a.enough)
  | inr not_lower ↦ elim (cases_lt other slabs) [ inl lower ↦ absurd (a.least other lower b.enough) | inr same ↦ omega arith ]
]

-- a fetch that gives items finds some free, and gives the count that the rule gives
picked : (none kept : Bool) (full reserved : Refusal) (k n : ℕ) → Gives n ≡ cond none (Refuses full) (cond kept (Refuses reserved) (Gives k)) → (none ≡ false) × (kept ≡ false) × (n ≡ k)
picked true kept full reserved k n e = absurd cc
picked false true full reserved k n e = absurd cc
picked false false full reserved k n e = (refl, refl, cc)

refused : (refusal : Refusal) (n : ℕ) → Gives n ≡ Refuses refusal → ⊥
refused refusal n e = cc

below : (found : Found) → is_at_limit found ≡ false → IsBelowLimit found
below found clear = record { within = λ limited. grind (arith, nat_tests) }

given_some : (found : Found) (wish : Wish) (free : ℕ) → 1 ≤ wish.most → IsBelowLimit found → 1 ≤ given found wish free
given_some found wish free most below = let limit = below.within in grind (arith, nat_tests)

given_most : (found : Found) (wish : Wish) (free : ℕ) → 1 ≤ wish.most → given found wish free ≤ wish.most
given_most found wish free most = grind (arith, nat_tests)

given_limit : (found : Found) (wish : Wish) (free : ℕ) → 0 < found.limit → found.out < found.limit → found.out + given found wish free ≤ found.limit
given_limit found wish free limited below = grind (arith, nat_tests)

-- where some are free beyond the reserve, or with the right to it, items are given
chosen : (free reserve : ℕ) (right : Bool) (full reserved gives : Outcome) → (reserve < free) ⊎ ((0 < free) × (right ≡ true)) → gives ≡ cond (free == 0) full (cond (nat_le free reserve && not right) reserved gives)
chosen free reserve right full reserved gives (inl beyond) = grind (arith, nat_tests)
chosen free reserve right full reserved gives (inr (some, may)) = rw may (grind (arith, nat_tests))

-- the count that is given, where items are
counted : (found : Found) (wish : Wish) (n : ℕ) → EndsAs found wish (Gives n) → (at : Bool) → is_at_limit found ≡ at → (slabs : ℕ) × (is_at_limit found ≡ false) × (n ≡ given found wish (free_with found slabs))
counted found wish n ends true at = absurd (refused _ n (ends.at_limit at))
counted found wish n ends false at =
    let by = ends.below_limit at in
    let found_free = picked (free_with found by.0 == 0) (nat_le (free_with found by.0) found.reserve && not wish.reserve) _ _ (given found wish (free_with found by.0)) n by.2 in
    (by.0, at, found_free.2)

some : (found : Found) (wish : Wish) (n : ℕ) → 1 ≤ wish.most → EndsAs found wish (Gives n) → (1 ≤ n) × (n ≤ wish.most)
some found wish n most ends =
    let c = counted found wish n ends (is_at_limit found) refl in
    let free = free_with found c.0 in
    rw c.2 (given_some found wish free most (below found c.1), given_most found wish free most)

limited : (found : Found) (wish : Wish) (n : ℕ) → 0 < found.limit → EndsAs found wish (Gives n) → found.out + n ≤ found.limit
limited found wish n above ends =
    let c = counted found wish n ends (is_at_limit found) refl in
    rw c.2 (given_limit found wish (free_with found c.0) above ((below found c.1).within above))

not_at : (found : Found) → IsBelowLimit found → is_at_limit found ≡ false
not_at found lower = elim (cases_lt 0 found.limit) [
  | inl some ↦ let strictly = lower.within some in grind (arith, nat_tests)
  | inr none ↦ grind (arith, nat_tests)
]

complete : (found : Found) (wish : Wish) (slabs : ℕ) → IsBelowLimit found → IsNewSlabs found slabs → (found.reserve < free_with found slabs) ⊎ ((0 < free_with found slabs) × (wish.reserve ≡ true)) → EndsAs found wish (Gives (given found wish (free_with found slabs)))
complete found wish slabs lower enough free = record {
  at_limit = λ at. absurd (cc (at, not_at found lower));
  below_limit = λ _. (slabs, enough, chosen (free_with found slabs) found.reserve wish.reserve _ _ _ free);
}

-- a fetch whose tests find none free, or none beyond the reserve, ends with the right as it does without, but where the right alone gives one
by_right : (free reserve rest : ℕ) (full : Refusal) (none within : Bool) → (free == 0) ≡ none → nat_le free reserve ≡ within
    → (cond none (Refuses full) (cond (within && not true) (Refuses (Reserved free reserve)) (Gives (cond within 1 rest))) ≡ cond none (Refuses full) (cond (within && not false) (Refuses (Reserved free reserve)) (Gives (cond within 1 rest))))
    ⊎ ((0 < free) × (free ≤ reserve) × (cond none (Refuses full) (cond (within && not false) (Refuses (Reserved free reserve)) (Gives (cond within 1 rest))) ≡ Refuses (Reserved free reserve)) × (cond none (Refuses full) (cond (within && not true) (Refuses (Reserved free reserve)) (Gives (cond within 1 rest))) ≡ Gives 1))
by_right free reserve rest full true within is_none is_within = inl refl
by_right free reserve rest full false false is_none is_within = inl refl
by_right free reserve rest full false true is_none is_within = inr (not_none free is_none, at_most free reserve is_within, refl, refl)

with_reserve : (found : Found) (most : ℕ) (without with_right : Outcome) → EndsAs found (record { most = most; reserve = false }) without → EndsAs found (record { most = most; reserve = true }) with_right → (at : Bool) → is_at_limit found ≡ at
    → (with_right ≡ without) ⊎ ((free : ℕ) × (0 < free) × (free ≤ found.reserve) × (without ≡ Refuses (Reserved free found.reserve)) × (with_right ≡ Gives 1))
with_reserve found most without with_right ends ends_right true at = inl (ends_right.at_limit at ∙ sym (ends.at_limit at))
with_reserve found most without with_right ends ends_right false at =
    let by = ends.below_limit at in
    let right = ends_right.below_limit at in
    let same : right.0 ≡ by.0 = one_count found right.0 by.0 right.1 by.1 in
    let ends_with : with_right ≡ outcome_with found (record { most = most; reserve = true }) by.0 = right.2 ∙ ap (outcome_with found (record { most = most; reserve = true })) same in
    let free = free_with found by.0 in
    elim (by_right free found.reserve (min most (min (free - found.reserve) (allowed found (record { most = most; reserve = true })))) (Full (found.slabs + by.0) (found.made + by.0)) (free == 0) (nat_le free found.reserve) refl refl) [
      | inl as_without ↦ inl (ends_with ∙ as_without ∙ sym by.2)
      | inr p ↦ inr (free, p.0, p.1, by.2 ∙ p.2, ends_with ∙ p.3)
    ]

-- the least count that is enough, where no count below one is
least_from : (found : Found) (left from : ℕ) → found.slabs + from + left ≡ found.cap → ((fewer : ℕ) → fewer < from → IsEnough found fewer → ⊥) → (slabs : ℕ) × IsNewSlabs found slabs
least_from found zero from all none = (from, record { enough = inr (omega arith); least = none })
least_from found (suc left) from all none = elim (cases_lt found.reserve (free_with found from)) [
  | inl beyond ↦ (from, record { enough = inl beyond; least = none })
  | inr within ↦ least_from found left (from + 1) (omega arith)
      (λ fewer low e. elim (cases_eq fewer from) [
        | inl at ↦
            let here : IsEnough found from = subst (IsEnough found) at e in
            elim here [ inl beyond ↦ omega (arith, beyond, within) | inr full ↦ omega (arith, full, all) ]
        | inr other ↦ none fewer (omega (arith, low, other)) e
      ])
]

some_count : (found : Found) → found.slabs ≤ found.cap → (slabs : ℕ) × IsNewSlabs found slabs
some_count found within = least_from found (found.cap - found.slabs) 0 (omega arith) (λ fewer low e. omega (arith, low))

ends_at : (found : Found) (wish : Wish) → found.slabs ≤ found.cap → (at : Bool) → is_at_limit found ≡ at → (outcome : Outcome) × EndsAs found wish outcome
ends_at found wish within true at = (Refuses (AtLimit found.out found.limit), record { at_limit = λ _. refl; below_limit = λ clear. absurd (cc (at, clear)) })
ends_at found wish within false clear =
    let new = some_count found within in
    (outcome_with found wish new.0, record { at_limit = λ at. absurd (cc (at, clear)); below_limit = λ _. (new.0, new.1, refl) })

one_end : (found : Found) (wish : Wish) (outcome other : Outcome) → EndsAs found wish outcome → EndsAs found wish other → (at : Bool) → is_at_limit found ≡ at → outcome ≡ other
one_end found wish outcome other ends ends_too true at = ends.at_limit at ∙ sym (ends_too.at_limit at)
one_end found wish outcome other ends ends_too false clear =
    let by = ends.below_limit clear in
    let by_too = ends_too.below_limit clear in
    by.2 ∙ ap (outcome_with found wish) (one_count found by.0 by_too.0 by.1 by_too.1) ∙ sym by_too.2

pub fetch_law : FetchLaw
fetch_law = record {
  one_count = one_count;
  some_count = some_count;
  some_end = λ found wish within. ends_at found wish within (is_at_limit found) refl;
  one_end = λ found wish outcome other ends ends_too. one_end found wish outcome other ends ends_too (is_at_limit found) refl;
  some = some;
  limit = limited;
  complete = complete;
  reserve = λ found most without with_right ends ends_right. with_reserve found most without with_right ends ends_right (is_at_limit found) refl;
}

-- ---- what a refusal says of the numbers

-- none is free, or none beyond the reserve, to which the fetch has no right
why : (none kept : Bool) (full reserved refusal : Refusal) (k : ℕ) → cond none (Refuses full) (cond kept (Refuses reserved) (Gives k)) ≡ Refuses refusal → ((none ≡ true) × (refusal ≡ full)) ⊎ ((none ≡ false) × (kept ≡ true) × (refusal ≡ reserved))
why true kept full reserved refusal k e = inl (refl, cc)
why false true full reserved refusal k e = inr (refl, refl, cc)
why false false full reserved refusal k e = absurd cc

pub names_limit : (found : Found) (wish : Wish) (out limit : ℕ) → is_at_limit found ≡ true → EndsAs found wish (Refuses (AtLimit out limit)) → (out ≡ found.out) × (limit ≡ found.limit) × (limit ≤ out) × (0 < limit)
names_limit found wish out limit at ends =
    let is = ends.at_limit at in
    let same_out : out ≡ found.out = cc in
    let same_limit : limit ≡ found.limit = cc in
    let both = both_true (nat_lt 0 found.limit) (nat_le found.limit found.out) at in
    (same_out, same_limit, omega (arith, same_out, same_limit, at_most found.limit found.out both.1), omega (arith, same_limit, above 0 found.limit both.0))

pub names_slabs : (found : Found) (wish : Wish) (slabs in_all made : ℕ) → IsEnough found slabs → outcome_with found wish slabs ≡ Refuses (Full in_all made) → (in_all ≡ found.cap) × (made + found.slabs ≡ found.made + in_all)
names_slabs found wish slabs in_all made enough ends =
    let free = free_with found slabs in
    elim (why (free == 0) (nat_le free found.reserve && not wish.reserve) (Full (found.slabs + slabs) (found.made + slabs)) (Reserved free found.reserve) (Full in_all made) (given found wish free) ends) [
      | inl p ↦ let is = p.1 in let same_in : in_all ≡ found.slabs + slabs = cc in let same_made : made ≡ found.made + slabs = cc in elim enough [
        | inl beyond ↦ absurd (omega (arith, beyond, same_number free 0 p.0))
        | inr all ↦ (omega (arith, all, same_in), omega (arith, same_in, same_made))
      ]
      | inr p ↦ let is = p.2 in absurd cc
    ]

pub names_reserve : (found : Found) (wish : Wish) (slabs free reserve : ℕ) → outcome_with found wish slabs ≡ Refuses (Reserved free reserve) → (reserve ≡ found.reserve) × (0 < free) × (free ≤ reserve) × (wish.reserve ≡ false)
names_reserve found wish slabs free reserve ends =
    let there = free_with found slabs in
    elim (why (there == 0) (nat_le there found.reserve && not wish.reserve) (Full (found.slabs + slabs) (found.made + slabs)) (Reserved there found.reserve) (Reserved free reserve) (given found wish there) ends) [
      | inl p ↦ let is = p.1 in absurd cc
      | inr p ↦
          let is = p.2 in
          let same_free : free ≡ there = cc in
          let same_reserve : reserve ≡ found.reserve = cc in
          let kept = first_only (nat_le there found.reserve) wish.reserve p.1 in
          (same_reserve, omega (arith, same_free, not_none there p.0), omega (arith, same_free, same_reserve, at_most there found.reserve kept.0), kept.1)
    ]

pub gives_few : (found : Found) (wish : Wish) (slabs n : ℕ) → 1 ≤ wish.most → outcome_with found wish slabs ≡ Gives n → n ≤ wish.most
gives_few found wish slabs n most ends =
    let free = free_with found slabs in
    let p = picked (free == 0) (nat_le free found.reserve && not wish.reserve) (Full (found.slabs + slabs) (found.made + slabs)) (Reserved free found.reserve) (given found wish free) n (sym ends) in
    omega (arith, p.2, given_most found wish free most)
