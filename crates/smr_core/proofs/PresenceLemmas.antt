-- Sets of seats: the next seat of one, those below a number, and a seat that is put in or taken out.
use Rattle.std.proofs.Common.{◌≡◌, ℕ, zero, suc, ◌+◌, ◌-◌, ◌*◌, ◌%◌, ◌^◌, ◌<◌, ◌≤◌, ◌≢◌, [], ◌∷◌, ◌++◌, sym, refl, ap, ◌∙◌, subst, ◌⊎◌, inl, inr, ⊎_elim, arith, Bool, true, false, cond, eqb, max, min, bit_and, w64}
use Rattle.std.specs.Int.{bit_at, trailing_zeros}
use Rattle.std.specs.Int.Count.{trailing_of_zero}
use Rattle.std.proofs.lemmas.Bool.{cases_lt, cases_eq}
use Rattle.std.proofs.lemmas.Nat.{or_lt, and_le_l, pow_below, pow_pos}
use Rattle.std.proofs.lemmas.Nat.Bits.{bit_at-lt, bit_at-zero, bit_at_and, bit_at_or, bit_at_ones, bit_at_not, bit_at-pow_same, bit_at-pow_other, bit_at-trailing_zeros, bit_at_mask_inside, bit_at_mask_below, ones_shl}
use borrow.Author.Tests.{eqb-true, eqb-false}
use Rattle.smr_core.specs.declared.clock_core.ClockConfig.{ClockConfig}
use Rattle.smr_core.specs.ClockState.{IsPresent, IsAbsent, is_present, all_seats, first_of, next_present, seats_below}
use Rattle.smr_core.specs.ClockStep.{without, with_seat}

-- what holds of either answer of a test
by_test : (b : Bool) (P : Bool → Type 0) → (b ≡ true → P true) → (b ≡ false → P false) → P b
by_test true P t f = t refl
by_test false P t f = f refl

module _ (p : ℕ) where
  pub is-present : (s : ℕ) → is_present p s ≡ true → IsPresent p s
  is-present s e = eqb-true (bit_at p s) 1 e

  pub is-absent : (s : ℕ) → is_present p s ≡ false → IsAbsent p s
  is-absent s e = let other = eqb-false (bit_at p s) 1 e in let small = bit_at-lt p s in omega arith

  pub present_or_absent : (s : ℕ) → IsPresent p s ⊎ IsAbsent p s
  present_or_absent s =
      ⊎_elim (λ e. inl e) (λ n. inr (let small = bit_at-lt p s in omega arith)) (cases_eq (bit_at p s) 1)

  present-is : (s : ℕ) → IsPresent p s → is_present p s ≡ true
  present-is s e = ap (λ (b : ℕ). eqb b 1) e

  absent-is : (s : ℕ) → IsAbsent p s → is_present p s ≡ false
  absent-is s e = ap (λ (b : ℕ). eqb b 1) e

  -- ---- the next one

  first-within : (k n : ℕ) → (k ≤ first_of p k n) × (first_of p k n ≤ k + n)
  first-within k zero = (omega arith, omega arith)
  first-within k (suc n) =
      by_test (is_present p k) (λ b. (k ≤ cond b k (first_of p (suc k) n)) × (cond b k (first_of p (suc k) n) ≤ k + suc n))
      (λ _. (omega arith, omega arith))
      (λ _. let r = first-within (suc k) n in (omega arith, omega arith))

  first-present : (k n : ℕ) → first_of p k n < k + n → IsPresent p (first_of p k n)
  first-present k zero = λ below. absurd (omega arith)
  first-present k (suc n) =
      by_test (is_present p k) (λ b. cond b k (first_of p (suc k) n) < k + suc n → IsPresent p (cond b k (first_of p (suc k) n)))
      (λ e _. is-present k e)
      (λ _ below. first-present (suc k) n (omega arith))

  first-skips : (k n s : ℕ) → k ≤ s → s < first_of p k n → IsAbsent p s
  first-skips k zero s above = λ below. absurd (omega arith)
  first-skips k (suc n) s above =
      by_test (is_present p k) (λ b. s < cond b k (first_of p (suc k) n) → IsAbsent p s)
      (λ _ below. absurd (omega arith))
      (λ e below.
      ⊎_elim
      (λ (here : k ≡ s). subst (λ (x : ℕ). IsAbsent p x) here (is-absent k e))
      (λ (else : k ≢ s). first-skips (suc k) n s (omega arith) below)
      (cases_eq k s))

  -- ---- those below a number

  pub seats_below-more : (n : ℕ) → IsPresent p n → seats_below p (suc n) ≡ seats_below p n ++ n ∷ []
  seats_below-more n e = ap (λ (b : Bool). cond b (seats_below p n ++ n ∷ []) (seats_below p n)) (present-is n e)

  pub seats_below-same : (n : ℕ) → IsAbsent p n → seats_below p (suc n) ≡ seats_below p n
  seats_below-same n e = ap (λ (b : Bool). cond b (seats_below p n ++ n ∷ []) (seats_below p n)) (absent-is n e)

  -- seats that aren't in the set change nothing
  seats_below-skips : (k n : ℕ) → ((s : ℕ) → k ≤ s → s < k + n → IsAbsent p s) → seats_below p (k + n) ≡ seats_below p k
  seats_below-skips k zero none = let here : k + zero ≡ k = omega arith in ap (seats_below p) here
  seats_below-skips k (suc n) none =
      let last : k + suc n ≡ suc (k + n) = omega arith in
      ap (seats_below p) last ∙ seats_below-same (k + n) (none (k + n) (omega arith) (omega arith))
      ∙ seats_below-skips k n (λ s above below. none s above (omega arith))

module _ (a : ClockConfig) (p : ℕ) where
  pub next-above : (k : ℕ) → k ≤ next_present a p k
  next-above k = (first-within p k (a.seats - k)).0

  pub next-within : (k : ℕ) → k ≤ a.seats → next_present a p k ≤ a.seats
  next-within k within = let r = (first-within p k (a.seats - k)).1 in omega arith

  pub next-present : (k : ℕ) → next_present a p k < a.seats → IsPresent p (next_present a p k)
  next-present k below = first-present p k (a.seats - k) (let r = (first-within p k (a.seats - k)).0 in omega arith)

  pub next-skips : (k s : ℕ) → k ≤ s → s < next_present a p k → IsAbsent p s
  next-skips k s above below = first-skips p k (a.seats - k) s above below

  seats_below-next : (k : ℕ) → seats_below p (next_present a p k) ≡ seats_below p k
  seats_below-next k =
      let above = next-above k in
      let there : k + (next_present a p k - k) ≡ next_present a p k = omega arith in
      ap (seats_below p) (sym there) ∙ seats_below-skips p k (next_present a p k - k) (λ s from below. next-skips k s from (omega arith))

  -- a poll that begins has no seat behind it
  pub none-below-first : seats_below p (next_present a p 0) ≡ []
  none-below-first = seats_below-next 0

  -- and one that goes on has one more
  pub one-more-below : (k : ℕ) → IsPresent p k → seats_below p (next_present a p (k + 1)) ≡ seats_below p k ++ k ∷ []
  one-more-below k e = let after : k + 1 ≡ suc k = omega arith in seats_below-next (k + 1) ∙ ap (seats_below p) after ∙ seats_below-more p k e

  -- where a seat isn't in the set, the next one is that from the seat after it
  pub next-at : (k : ℕ) → k < a.seats → IsPresent p k → next_present a p k ≡ k
  next-at k below e =
      let count : a.seats - k ≡ suc (a.seats - (k + 1)) = omega arith in
      ap (first_of p k) count ∙ ap (λ (b : Bool). cond b k (first_of p (suc k) (a.seats - (k + 1)))) (present-is p k e)

  pub next-past : (k : ℕ) → k < a.seats → IsAbsent p k → next_present a p k ≡ next_present a p (k + 1)
  next-past k below e =
      let count : a.seats - k ≡ suc (a.seats - (k + 1)) = omega arith in
      ap (first_of p k) count ∙ ap (λ (b : Bool). cond b k (first_of p (suc k) (a.seats - (k + 1)))) (absent-is p k e)
      ∙ ap (λ (x : ℕ). first_of p x (a.seats - (k + 1))) (let after : suc k ≡ k + 1 = omega arith in after)

-- ---- a seat that is put in or taken out

module _ (s p : ℕ) (small : s < 64) where
  bit_fits : 2 ^ s < 2 ^ 64
  bit_fits = pow_below s 64 small

  mask-same : bit_at (2 ^ 64 - 1 - 2 ^ s) s ≡ 0
  mask-same = bit_at_not w64 (2 ^ s) s bit_fits small ∙ ap (λ (b : ℕ). 1 - b) (bit_at-pow_same s)

  mask-other : (i : ℕ) → i < 64 → i ≢ s → bit_at (2 ^ 64 - 1 - 2 ^ s) i ≡ 1
  mask-other i below other = bit_at_not w64 (2 ^ s) i bit_fits below ∙ ap (λ (b : ℕ). 1 - b) (bit_at-pow_other s i other)

  pub without-same : IsAbsent (without s p) s
  without-same = bit_at_and p (2 ^ 64 - 1 - 2 ^ s) s ∙ ap (λ (b : ℕ). min (bit_at p s) b) mask-same ∙ (omega arith)

  pub without-other : (i : ℕ) → i < 64 → i ≢ s → bit_at (without s p) i ≡ bit_at p i
  without-other i below other =
      let bit = bit_at-lt p i in
      bit_at_and p (2 ^ 64 - 1 - 2 ^ s) i ∙ ap (λ (b : ℕ). min (bit_at p i) b) (mask-other i below other) ∙ (omega arith)

  pub with-same : IsPresent (with_seat s p) s
  with-same = let bit = bit_at-lt p s in bit_at_or p (2 ^ s) s ∙ ap (λ (b : ℕ). max (bit_at p s) b) (bit_at-pow_same s) ∙ (omega arith)

  pub with-other : (i : ℕ) → i ≢ s → bit_at (with_seat s p) i ≡ bit_at p i
  with-other i other = bit_at_or p (2 ^ s) i ∙ ap (λ (b : ℕ). max (bit_at p i) b) (bit_at-pow_other s i other) ∙ (omega arith)

  pub without-narrow : (n : ℕ) → p < 2 ^ n → without s p < 2 ^ n
  without-narrow n below = let le = and_le_l p (2 ^ 64 - 1 - 2 ^ s) in omega arith

  pub with-narrow : (n : ℕ) → s < n → p < 2 ^ n → with_seat s p < 2 ^ n
  with-narrow n within below = or_lt n p (2 ^ s) below (pow_below s n within)

-- all seats are present in the set of all
pub all-present : (a : ClockConfig) (s : ℕ) → s < a.seats → IsPresent (all_seats a) s
all-present a s below = bit_at_ones a.seats s below

pub all-narrow : (a : ClockConfig) → all_seats a < 2 ^ a.seats
all-narrow a = let some = pow_pos a.seats in omega arith

-- ---- how the next seat is found in a word

no_ones : trailing_zeros w64 0 ≡ 64
no_ones = trailing_of_zero 64

module _ (a : ClockConfig) (p : ℕ) where
  -- it is the one seat from k on that is in the set, or the count, with none before it
  pub next-unique : (k r : ℕ) → k ≤ r → r ≤ a.seats → (r < a.seats → IsPresent p r) → ((s : ℕ) → k ≤ s → s < r → IsAbsent p s) → r ≡ next_present a p k
  next-unique k r above within present none =
      let q : ℕ = next_present a p k in
      let from : k ≤ next_present a p k = next-above a p k in
      let to : next_present a p k ≤ a.seats = next-within a p k (omega arith) in
      ⊎_elim
      (λ (lower : next_present a p k < r).
      let one = next-present a p k (omega arith) in let zero = none (next_present a p k) from lower in absurd (omega arith))
      (λ (higher : r ≤ next_present a p k).
      ⊎_elim
      (λ (same : r ≡ next_present a p k). same)
      (λ (other : r ≢ next_present a p k). let one = present (omega arith) in let zero = next-skips a p k r above (omega arith) in absurd (omega arith))
      (cases_eq r (next_present a p k)))
      (cases_lt (next_present a p k) r)

  -- a word without its bits below k
  rest_from : ℕ → ℕ
  rest_from k = bit_and p ((2 ^ 64 - 1) * 2 ^ k % 2 ^ 64)

  rest-kept : (k i : ℕ) → k ≤ 64 → k ≤ i → i < 64 → bit_at (rest_from k) i ≡ bit_at p i
  unfolding rest_from
  rest-kept k i small above below =
      let bit = bit_at-lt p i in
      bit_at_and p ((2 ^ 64 - 1) * 2 ^ k % 2 ^ 64) i ∙ rw (ones_shl 64 k small, bit_at_mask_inside k 64 i above below) (omega arith)

  rest-lost : (k i : ℕ) → k ≤ 64 → i < k → bit_at (rest_from k) i ≡ 0
  unfolding rest_from
  rest-lost k i small below =
      let bit = bit_at-lt p i in
      bit_at_and p ((2 ^ 64 - 1) * 2 ^ k % 2 ^ 64) i ∙ rw (ones_shl 64 k small, bit_at_mask_below k 64 i below) (omega arith)

  rest-narrow : (k : ℕ) → p < 2 ^ 64 → rest_from k < 2 ^ 64
  unfolding rest_from
  rest-narrow k narrow = let le = and_le_l p ((2 ^ 64 - 1) * 2 ^ k % 2 ^ 64) in omega arith

  found_low : (k : ℕ) → k < a.seats → a.seats ≤ 64 → p < 2 ^ 64 → rest_from k ≡ 0 ⊎ 0 < rest_from k → min a.seats (trailing_zeros w64 (rest_from k)) ≡ next_present a p k
  found_low k below few narrow (inl none) =
      let end : min a.seats (trailing_zeros w64 0) ≡ a.seats = ap (λ (n : ℕ). min a.seats n) no_ones ∙ (omega arith) in
      ap (λ (n : ℕ). min a.seats (trailing_zeros w64 n)) none ∙ end
      ∙ next-unique k a.seats (omega arith) (omega arith) (λ past. absurd (omega arith))
      (λ s from to. sym (rest-kept k s (omega arith) from (omega arith)) ∙ ap (λ (n : ℕ). bit_at n s) none ∙ bit_at-zero s)
  found_low k below few narrow (inr some) =
      let fits : rest_from k < 2 ^ 64 = rest-narrow k narrow in
      let low = bit_at-trailing_zeros w64 (rest_from k) some fits in
      let t : ℕ = trailing_zeros w64 (rest_from k) in
      let inside : trailing_zeros w64 (rest_from k) < 64 = low.0 in
      let above : k ≤ trailing_zeros w64 (rest_from k) =
      ⊎_elim (λ (lower : trailing_zeros w64 (rest_from k) < k). let zero = rest-lost k (trailing_zeros w64 (rest_from k)) (omega arith) lower in let one = low.1 in absurd (omega arith)) (λ h. h)
      (cases_lt (trailing_zeros w64 (rest_from k)) k) in
      next-unique k (min a.seats (trailing_zeros w64 (rest_from k))) (omega arith) (omega arith)
      (λ within.
      let same : min a.seats (trailing_zeros w64 (rest_from k)) ≡ trailing_zeros w64 (rest_from k) = omega arith in
      ap (λ (n : ℕ). bit_at p n) same ∙ sym (rest-kept k (trailing_zeros w64 (rest_from k)) (omega arith) above inside) ∙ low.1)
      (λ s from to. sym (rest-kept k s (omega arith) from (omega arith)) ∙ low.2 s (omega arith))

  pub found-is-next : (k : ℕ) → k < a.seats → a.seats ≤ 64 → p < 2 ^ 64
      → min a.seats (trailing_zeros w64 (bit_and p ((2 ^ 64 - 1) * 2 ^ k % 2 ^ 64))) ≡ next_present a p k
  unfolding rest_from
  found-is-next k below few narrow =
      found_low k below few narrow (⊎_elim (λ (none : rest_from k ≡ 0). inl none) (λ n. inr (omega arith)) (cases_eq (rest_from k) 0))

  -- from the count on there is none
  pub next-at-end : (k : ℕ) → a.seats ≤ k → next_present a p k ≡ k
  next-at-end k past = let none : a.seats - k ≡ 0 = omega arith in ap (first_of p k) none
