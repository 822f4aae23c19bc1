-- The order of sequences, on plain numbers.
use Rattle.std.proofs.Common.{◌≡◌, ℕ, suc, ◌+◌, ◌-◌, ◌*◌, ◌%◌, ◌^◌, ◌<◌, ◌≤◌, ◌↔◌, inl, inr, ℤ, pos, negsuc, ◌+ℤ◌, ◌-ℤ◌, unsigned_abs, refl, sym, ◌∙◌, ap, subst, arith}
use Rattle.std.proofs.lemmas.Int.{ints, int_rem_euclid_is, to_z_pos}
use Rattle.std.proofs.lemmas.Bool.{cases_lt}
use Rattle.std.proofs.Math.Facts.{to_z-neg}
use Rattle.std.specs.Int.{w32, cast_signed, int_rem_euclid}
use Rattle.smr_seq.specs.Reading.{low}
use Rattle.smr_seq.specs.Order.{steps, delta, IsDelta, IsBefore, OrderOfLow, DeltaOfLow, BothBeforeAtHalf, DeltaIsCongruent}

-- the signed number of 32 bits for n, in the lower half of the circle and in the upper
pub cast_signed-lower : (n : ℕ) → n < 2 ^ 31 → cast_signed w32 n ≡ pos n
cast_signed-lower n p = to_z_pos w32 n p

pub cast_signed-upper : (n k : ℕ) → k < 2 ^ 31 → n ≡ 2 ^ 32 - suc k → cast_signed w32 n ≡ negsuc k
cast_signed-upper n k p e = ap (cast_signed w32) e ∙ to_z-neg w32 k p

-- the difference in steps, where they are fewer than 2^31 up, and where at most 2^31 lead down
pub delta-up : (a b n : ℕ) → n < 2 ^ 31 → steps b a ≡ n → delta a b ≡ pos n
delta-up a b n p e = ap (cast_signed w32) e ∙ cast_signed-lower n p

pub delta-down : (a b k : ℕ) → k < 2 ^ 31 → steps b a ≡ 2 ^ 32 - suc k → delta a b ≡ negsuc k
delta-down a b k p e = cast_signed-upper (steps b a) k p e

-- the difference of two low halves
pub delta-low_up : (x y : ℕ) → y ≤ x → x - y < 2 ^ 31 → delta (low x) (low y) ≡ pos (x - y)
delta-low_up x y le near = delta-up (low x) (low y) (x - y) near (omega arith)

pub delta-low_down : (x y : ℕ) → x < y → y - suc x < 2 ^ 31 → delta (low x) (low y) ≡ negsuc (y - suc x)
delta-low_down x y lt near = delta-down (low x) (low y) (y - suc x) near (omega arith)

pub delta_of_low : DeltaOfLow
delta_of_low x y r =
    elim (cases_lt x y) as (λ _. delta (low x) (low y) ≡ pos x -ℤ pos y) [
      | inl lt ↦ delta-low_down x y lt (omega arith) ∙ omega (arith, ints)
      | inr le ↦ delta-low_up x y le (omega arith) ∙ omega (arith, ints)
    ]

pub order_of_low : OrderOfLow
order_of_low x y r =
    let e : delta (low x) (low y) ≡ pos x -ℤ pos y = delta_of_low x y r in (
      ((λ h. omega (arith, ints)), (λ h. omega (arith, ints))),
      ((λ h. omega (arith, ints)), (λ h. omega (arith, ints))),
    )

-- what fits 32 bits and is congruent is the difference
pub delta-IsDelta : (a b : ℕ) (d : ℤ) → b < 2 ^ 32 → IsDelta a b d → delta a b ≡ d
delta-IsDelta a b (pos n) p r =
    let e : (b + n) % 2 ^ 32 ≡ a = ap unsigned_abs r.congruent in
    let fits : n < 2 ^ 31 = omega (arith, ints, r.fits) in
    delta-up a b n fits (omega arith)
delta-IsDelta a b (negsuc n) p r =
    let fits : n < 2 ^ 31 = omega (arith, ints, r.fits) in
    let wrapped : int_rem_euclid (pos b +ℤ negsuc n) (pos (2 ^ 32)) ≡ pos ((b + 2 ^ 32 - suc n) % 2 ^ 32) =
    int_rem_euclid_is (pos b +ℤ negsuc n) (pos (2 ^ 32)) (2 ^ 32) 1 (b + 2 ^ 32 - suc n) (omega arith) refl (omega (arith, ints)) in
    let e : (b + 2 ^ 32 - suc n) % 2 ^ 32 ≡ a = ap unsigned_abs (sym wrapped ∙ r.congruent) in
    delta-down a b n fits (omega arith)

-- b + d and one turn of the circle come to m, which leaves a
congruent-turn : (a b m : ℕ) (d : ℤ) → (pos b +ℤ d) +ℤ pos (1 * 2 ^ 32) ≡ pos m → m % 2 ^ 32 ≡ a → int_rem_euclid (pos b +ℤ d) (pos (2 ^ 32)) ≡ pos a
congruent-turn a b m d turn left =
    int_rem_euclid_is (pos b +ℤ d) (pos (2 ^ 32)) (2 ^ 32) 1 m (omega arith) refl turn ∙ ap pos left

-- the difference fits 32 bits and is congruent
pub IsDelta-delta : (a b : ℕ) → a < 2 ^ 32 → b < 2 ^ 32 → IsDelta a b (delta a b)
IsDelta-delta a b p q =
    elim (cases_lt (steps b a) (2 ^ 31)) as (λ _. IsDelta a b (delta a b)) [
      | inl few ↦
          let up : delta a b ≡ pos (steps b a) = delta-up a b (steps b a) few refl in
          record { fits = search (arith, ints); congruent = congruent-turn a b (b + steps b a + 2 ^ 32) (delta a b) (omega (arith, ints)) (omega arith) }
      | inr many ↦
          let down : delta a b ≡ negsuc (2 ^ 32 - suc (steps b a)) = delta-down a b (2 ^ 32 - suc (steps b a)) (omega arith) (omega arith) in
          record { fits = search (arith, ints); congruent = congruent-turn a b (b + steps b a) (delta a b) (omega (arith, ints)) (omega arith) }
    ]

pub delta_is_congruent : DeltaIsCongruent
delta_is_congruent a b p q d = (
  (λ r. sym (delta-IsDelta a b d q r)),
  (λ e. subst (IsDelta a b) (sym e) (IsDelta-delta a b p q)),
)

-- a is before b where at least one step and at most 2^31 lead up to it
pub IsBefore-steps : (a b : ℕ) → a < 2 ^ 32 → b < 2 ^ 32 → IsBefore a b ↔ ((0 < steps a b) × (steps a b ≤ 2 ^ 31))
IsBefore-steps a b p q =
    elim (cases_lt (steps b a) (2 ^ 31)) as (λ _. IsBefore a b ↔ ((0 < steps a b) × (steps a b ≤ 2 ^ 31))) [
      | inl few ↦
          let up : delta a b ≡ pos (steps b a) = delta-up a b (steps b a) few refl in
          ((λ h. absurd (omega (arith, ints))), (λ h. absurd (omega arith)))
      | inr many ↦
          let down : delta a b ≡ negsuc (2 ^ 32 - suc (steps b a)) = delta-down a b (2 ^ 32 - suc (steps b a)) (omega arith) (omega arith) in
          ((λ h. (omega arith, omega arith)), (λ h. omega (arith, ints)))
    ]

pub both_before_at_half : BothBeforeAtHalf
both_before_at_half a b p q =
    let up = IsBefore-steps a b p q in
    let down = IsBefore-steps b a q p in (
      (λ h. let m = up.0 h.0 in let n = down.0 h.1 in omega arith),
      (λ e. (up.1 (omega arith, omega arith), down.1 (omega arith, omega arith))),
    )
