-- A hand of the clock is a number without an upper bound, and a sequence is its low half, 32 bits wide (FreeBSD's smr_seq_t).
-- What follows says which number a sequence stands for, near a hand that is known whole. That reading is a rule of this library's own.
use Rattle.std.specs.Prelude.{◌≡◌, ℕ, ◌+◌, ◌-◌, ◌%◌, ◌^◌, ◌<◌, ◌≤◌, ◌↔◌, ◌==◌, ◌&&◌, nat_lt, if◌then◌else◌, Option, Some, None}

-- the low half of a hand
abbrev pub low : ℕ → ℕ
low n = n % 2 ^ 32

-- x is the reading of the sequence c near l: a number up to l, less than 2^31 below it, whose low half is c
pub record IsReading (c l x : ℕ) : Type 0 where
  pub up_to : x ≤ l
  pub low_half : low x ≡ c
  pub near : l - x < 2 ^ 31

-- the greatest number up to l whose low half is c, where there is one
abbrev pub last_with_low : ℕ → ℕ → ℕ
last_with_low c l = l - low (l + 2 ^ 32 - c)

-- the reading of c near l, if there is one: `Some x` exactly for the x with `IsReading c l x`
unfoldable pub reading : ℕ → ℕ → Option ℕ
reading c l =
    let x = last_with_low c l in
    if (low x == c) && nat_lt (l - x) (2 ^ 31) then Some x else None

-- ---- the first fact about readings, which holds of all numbers

-- A number up to l and less than 2^31 below it is the reading of its own low half near l, and no other number is.
abbrev pub LowReadsBack : Type 0
LowReadsBack = (x l : ℕ) → x ≤ l → l - x < 2 ^ 31 → (y : ℕ) → IsReading (low x) l y ↔ (y ≡ x)

-- the same, of the function
abbrev pub ReadingOfLow : Type 0
ReadingOfLow = (x l : ℕ) → x ≤ l → l - x < 2 ^ 31 → reading (low x) l ≡ Some x
