-- Plain numbers: counts modulo 2^64, and bounds of sums.
use Rattle.std.proofs.Common.{◌≡◌, ℕ, ◌+◌, ◌*◌, ◌<◌, ◌≤◌, ◌^◌, ◌%◌, sym, ap, ◌∙◌, arith}
use Rattle.uma_life.specs.Trail.{ShowsSame}

pub shows_as : (a b a' b' : ℕ) → a ≡ a' → b ≡ b' → ShowsSame a b → ShowsSame a' b'
shows_as a b a' b' left right same = ap (λ m. m % 2 ^ 64) (sym left) ∙ same ∙ ap (λ m. m % 2 ^ 64) right

pub zero_plus : (n m : ℕ) → n ≡ 0 → n + m ≡ m
zero_plus n m none = omega arith

-- ---- sums over the workers so far

pub one_seat_more : (i : ℕ) → 2 ^ 34 + 704 * i + 704 ≡ 2 ^ 34 + 704 * (i + 1)
one_seat_more i = omega arith

pub no_seat_yet : 2 ^ 34 ≡ 2 ^ 34 + 704 * 0
no_seat_yet = omega arith

pub room_for_seats : (i count : ℕ) → i < count → count ≤ 16 → 2 ^ 34 + 704 * i ≤ 2 ^ 62
room_for_seats i count below few = omega arith

pub seats_fit : (count : ℕ) → count ≤ 16 → 2 ^ 34 + 704 * count ≤ 2 ^ 35
seats_fit count few = omega arith

pub seat_fits : 704 ≤ 2 ^ 62
seat_fits = omega arith

-- a lower bound of a sum, with one more
pub one_more : (so more here sum next other : ℕ) → so ≤ sum → next ≡ sum + other → other ≡ here → more ≡ so + here → more ≤ next
one_more so more here sum next other under is same step = omega arith
