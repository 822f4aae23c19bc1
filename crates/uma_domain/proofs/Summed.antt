-- The sums of a list of buckets, one after another.
use Rattle.std.proofs.Common.{◌≡◌, ◌<◌, ◌≤◌, ◌+◌, ℕ, List, [], ◌∷◌, length, take, get_or, sum_by, refl, ap, subst, arith}
use Rattle.std.proofs.lemmas.List.{take_all}
use Rattle.std.proofs.lemmas.List.Sums.{sum_by_more, sum_by-cons}
use Rattle.uma_life.specs.Hook.{Hook}
use Rattle.uma_life.specs.Sum.{sum_of}
use Rattle.uma_bucket.specs.declared.shelved.Sums.{Sums}
use Rattle.uma_bucket.specs.Sums.{nothing_held, Adds, AreOfAtMost, Balance}

-- the sums of so many items that passed each hook so often, so many of them deferred
pub record AreSums (times : Hook → ℕ) (deferred count zone : ℕ) (sums : Sums) : Type 0 where
  pub adds : Adds times deferred nothing_held sums
  pub few : AreOfAtMost count sums
  pub balance : Balance zone sums

-- fewer items have no greater sums
pub of_more : (few many : ℕ) (sums : Sums) → few ≤ many → AreOfAtMost few sums → AreOfAtMost many sums
of_more few many sums less at = record {
  tally = λ hook. let here = at.tally hook in omega (arith, less, here);
  deferred = omega (arith, less, at.deferred);
}

pub same_sums : (times times' : Hook → ℕ) (deferred deferred' count count' zone : ℕ) (sums : Sums) → ((hook : Hook) → times' hook ≡ times hook) → deferred' ≡ deferred → count' ≡ count → AreSums times deferred count zone sums → AreSums times' deferred' count' zone sums
same_sums times times' deferred deferred' count count' zone sums same same_deferred same_count at = record {
  adds = record {
    tally = λ hook. let here = at.adds.tally hook in omega (arith, here, same hook);
    deferred_too = omega (arith, at.adds.deferred_too, same_deferred);
  };
  few = of_more count count' sums (omega (arith, same_count)) at.few;
  balance = at.balance;
}

module _ {X : Type 0} (times : Hook → X → ℕ) (deferred len : X → ℕ) where
  -- the next bucket of a list is added, to the sums of those before it and of others
  pub sums_more : (others : Hook → ℕ) (other_deferred other_count zone : ℕ) (xs : List X) (at : ℕ) (x : X) (was is : Sums) → at < length xs → x ≡ get_or xs at x
      → AreSums (λ hook. others hook + sum_by (times hook) (take at xs)) (other_deferred + sum_by deferred (take at xs)) (other_count + sum_by len (take at xs)) zone was
      → Adds (λ hook. times hook x) (deferred x) was is → ((count : ℕ) → AreOfAtMost count was → AreOfAtMost (count + len x) is) → (Balance zone was → Balance zone is)
      → AreSums (λ hook. others hook + sum_by (times hook) (take (at + 1) xs)) (other_deferred + sum_by deferred (take (at + 1) xs)) (other_count + sum_by len (take (at + 1) xs)) zone is
  sums_more others other_deferred other_count zone xs at x was is within there so adds few balance =
      let more_deferred = sum_by_more deferred xs at x within in
      let more_len = sum_by_more len xs at x within in
      let here_deferred : deferred x ≡ deferred (get_or xs at x) = ap deferred there in
      let here_len : len x ≡ len (get_or xs at x) = ap len there in
      record {
        adds = record {
          tally = λ hook.
              let more = sum_by_more (times hook) xs at x within in
              let here : times hook x ≡ times hook (get_or xs at x) = ap (times hook) there in
              let old = so.adds.tally hook in
              let new = adds.tally hook in
              omega (arith, more, here, old, new);
          deferred_too = omega (arith, more_deferred, here_deferred, so.adds.deferred_too, adds.deferred_too);
        };
        few = of_more (other_count + sum_by len (take at xs) + len x) (other_count + sum_by len (take (at + 1) xs)) is (omega (arith, more_len, here_len)) (few (other_count + sum_by len (take at xs)) so.few);
        balance = balance so.balance;
      }

  -- all of a list, beside others, which were counted in another way
  pub sums_whole : (others : Hook → ℕ) (other_deferred other_count zone : ℕ) (xs : List X) (at : ℕ) (sums : Sums) → length xs ≤ at
      → AreSums (λ hook. others hook + sum_by (times hook) (take at xs)) (other_deferred + sum_by deferred (take at xs)) (other_count + sum_by len (take at xs)) zone sums
      → AreSums (λ hook. others hook + sum_by (times hook) xs) (other_deferred + sum_by deferred xs) (other_count + sum_by len xs) zone sums
  sums_whole others other_deferred other_count zone xs at sums past so =
      subst (λ (ys : List X). AreSums (λ hook. others hook + sum_by (times hook) ys) (other_deferred + sum_by deferred ys) (other_count + sum_by len ys) zone sums) (take_all at xs past) so

  -- no bucket yet
  pub sums_begin : (others : Hook → ℕ) (other_deferred other_count zone : ℕ) (xs : List X) (sums : Sums)
      → AreSums others other_deferred other_count zone sums
      → AreSums (λ hook. others hook + sum_by (times hook) (take 0 xs)) (other_deferred + sum_by deferred (take 0 xs)) (other_count + sum_by len (take 0 xs)) zone sums
  sums_begin others other_deferred other_count zone xs sums so =
      same_sums others (λ hook. others hook + sum_by (times hook) (take 0 xs)) other_deferred (other_deferred + sum_by deferred (take 0 xs)) other_count (other_count + sum_by len (take 0 xs)) zone sums (λ hook. omega arith) (omega arith) (omega arith) so

-- so many zeros
pub no_deferred : {X : Type 0} (xs : List X) → sum_by (λ (x : X). 0) xs ≡ 0
no_deferred [] = refl
no_deferred {X} (x ∷ xs) =
    let rest = no_deferred xs in
    let sum = sum_by-cons (λ (y : X). 0) x xs in
    omega (arith, rest, sum)

pub sums_none : (zone : ℕ) (sums : Sums) → sums ≡ nothing_held → AreOfAtMost 0 sums → Balance zone sums → AreSums (λ hook. 0) 0 0 zone sums
sums_none zone sums none few balance = record {
  adds = record {
    tally = λ hook. let here : sum_of sums.tally hook ≡ sum_of nothing_held.tally hook = ap (λ (s : Sums). sum_of s.tally hook) none in omega (arith, here);
    deferred_too = let here : sums.deferred ≡ nothing_held.deferred = ap (λ (s : Sums). s.deferred) none in omega (arith, here);
  };
  few = few;
  balance = balance;
}
