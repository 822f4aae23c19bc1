-- The order of sequences on their circle of 2^32 numbers, as FreeBSD's SMR_SEQ_DELTA, SMR_SEQ_LT and SMR_SEQ_LEQ have it.
use Rattle.std.specs.Prelude.{◌≡◌, ℕ, ◌+◌, ◌-◌, ◌%◌, ◌^◌, ◌<◌, ◌≤◌, ◌↔◌, ℤ, pos, ◌+ℤ◌, ◌-ℤ◌, ◌<ℤ◌, ◌≤ℤ◌, FitsSigned}
use Rattle.std.specs.Int.{w32, cast_signed, int_rem_euclid}
use Rattle.smr_seq.specs.Reading.{low}

-- d is the wrapping difference a - b as a signed number: from -2^31 to 2^31 - 1, and b + d comes to a, modulo 2^32
pub record IsDelta (a b : ℕ) (d : ℤ) : Type 0 where
  pub fits : FitsSigned w32 d
  pub congruent : int_rem_euclid (pos b +ℤ d) (pos (2 ^ 32)) ≡ pos a

-- how many steps up lead from a to b, round the circle
abbrev pub steps : ℕ → ℕ → ℕ
steps a b = (b + (2 ^ 32 - a)) % 2 ^ 32

-- the wrapping difference a - b of two sequences, the only d with `IsDelta a b d`: the steps from b up to a, as a signed number of 32 bits
abbrev pub delta : ℕ → ℕ → ℤ
delta a b = cast_signed w32 (steps b a)

-- a is before b: the difference is below 0. At a distance of exactly 2^31 each is before the other.
abbrev pub IsBefore : ℕ → ℕ → Type 0
IsBefore a b = delta a b <ℤ pos 0

-- a is at or before b: the difference is 0 or below
abbrev pub IsAtOrBefore : ℕ → ℕ → Type 0
IsAtOrBefore a b = delta a b ≤ℤ pos 0

-- ---- the second fact about readings, which holds of all numbers

-- x and y differ by less than 2^31
abbrev pub IsWithinReach : ℕ → ℕ → Type 0
IsWithinReach x y = (x - y < 2 ^ 31) × (y - x < 2 ^ 31)

-- x and y are hands that differ by less than 2^31, and the sequences a and b are their low halves
pub record AreHandsOf (a b x y : ℕ) : Type 0 where
  pub low_first : low x ≡ a
  pub low_second : low y ≡ b
  pub within_reach : IsWithinReach x y

-- Two numbers that differ by less than 2^31 are ordered as their low halves are.
abbrev pub OrderOfLow : Type 0
OrderOfLow =
    (x y : ℕ) → IsWithinReach x y →
    (IsBefore (low x) (low y) ↔ (x < y)) × (IsAtOrBefore (low x) (low y) ↔ (x ≤ y))

-- the same of the difference
abbrev pub DeltaOfLow : Type 0
DeltaOfLow = (x y : ℕ) → IsWithinReach x y → delta (low x) (low y) ≡ pos x -ℤ pos y

-- ---- laws of the order

-- The difference of two sequences is the only signed number of 32 bits that is congruent to it.
abbrev pub DeltaIsCongruent : Type 0
DeltaIsCongruent = (a b : ℕ) → a < 2 ^ 32 → b < 2 ^ 32 → (d : ℤ) → IsDelta a b d ↔ (d ≡ delta a b)

-- Each of two sequences is before the other exactly where they are 2^31 apart.
abbrev pub BothBeforeAtHalf : Type 0
BothBeforeAtHalf = (a b : ℕ) → a < 2 ^ 32 → b < 2 ^ 32 → (IsBefore a b × IsBefore b a) ↔ (steps a b ≡ 2 ^ 31)
