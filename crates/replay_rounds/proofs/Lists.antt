-- Plain lists and numbers.
use Rattle.std.proofs.Common.{◌≡◌, ◌≢◌, ℕ, zero, suc, ◌+◌, ◌<◌, ◌≤◌, List, [], ◌∷◌, ◌++◌, Some, inl, inr, ◌⊎◌, refl, ap, subst, arith, length}
use Rattle.std.proofs.lemmas.Option.{none-some, same_Some, slice_get_within, get_or_from_slice_get}
use Rattle.std.proofs.lemmas.List.Elements.{All-nil, All-cons}
use Rattle.std.proofs.lemmas.List.Sums.{sum_by-cons}
use Rattle.std.specs.List.{sum_by}
use Rattle.std.specs.Prelude.{All, slice_get, slice_set}
use mathlib.Core.Option.{some}
use lib.ListN.{get_elem?}

-- two ways to read a place
pub read_at : {X : Type 0} (xs : List X) (i : ℕ) (x : X) → slice_get xs i ≡ Some x → get_elem? xs i ≡ some x
read_at [] i x is = absurd (none-some x is)
read_at (y ∷ xs) zero x is = ap some (same_Some y x is)
read_at (y ∷ xs) (suc i) x is = read_at xs i x is

-- what a list with one more at its end has at a place
pub pushed : {X : Type 0} (xs : List X) (x : X) (z : ℕ) (y : X) → slice_get (xs ++ x ∷ []) z ≡ Some y → ((z ≡ length xs) × (x ≡ y)) ⊎ (slice_get xs z ≡ Some y)
pushed [] x zero y e = inl (refl, same_Some x y e)
pushed [] x (suc z) y e = absurd (none-some y e)
pushed (w ∷ xs) x zero y e = inr e
pushed (w ∷ xs) x (suc z) y e = elim (pushed xs x z y e) [
  | inl last ↦ inl (omega (arith, last.0), last.1)
  | inr before ↦ inr before
]

-- where one list has something, another of its length has too
pub has_too : {X Y : Type 0} (xs : List X) (ys : List Y) (i : ℕ) (y : Y) → length ys ≡ length xs → slice_get ys i ≡ Some y → (x : X) × (slice_get xs i ≡ Some x)
has_too xs [] i y count is = absurd (none-some y is)
has_too [] (v ∷ ys) i y count is = absurd (omega (arith, count))
has_too (x ∷ xs) (v ∷ ys) zero y count is = (x, refl)
has_too (x ∷ xs) (v ∷ ys) (suc i) y count is = has_too xs ys i y (omega (arith, count)) is

pub as_low : {a b : ℕ} → b ≡ a → a ≤ b
as_low is = omega arith

pub none_above : {a : ℕ} → a ≡ 0 → 0 < a → ⊥
none_above is above = omega arith

pub none_below : {a : ℕ} (n : ℕ) → a ≡ 0 → a ≤ n
none_below n is = omega arith

pub both_none : {a b c : ℕ} → a ≡ 0 → b ≡ 0 → c ≡ 0 → a + b ≡ c
both_none e f g = omega arith

-- two lists of one length, each with one more at its end
pub pushed_both : {X Y : Type 0} (xs : List X) (ys : List Y) (x : X) (y : Y) (z : ℕ) (u : X) (v : Y) → length ys ≡ length xs → slice_get (xs ++ x ∷ []) z ≡ Some u → slice_get (ys ++ y ∷ []) z ≡ Some v
    → ((z ≡ length xs) × (x ≡ u) × (y ≡ v)) ⊎ ((z < length xs) × (slice_get xs z ≡ Some u) × (slice_get ys z ≡ Some v))
pushed_both [] [] x y zero u v e at_u at_v = inl (refl, same_Some x u at_u, same_Some y v at_v)
pushed_both [] [] x y (suc z) u v e at_u at_v = absurd (none-some u at_u)
pushed_both [] (b ∷ ys) x y z u v e at_u at_v = absurd (omega (arith, e))
pushed_both (a ∷ xs) [] x y z u v e at_u at_v = absurd (omega (arith, e))
pushed_both (a ∷ xs) (b ∷ ys) x y zero u v e at_u at_v = inr (omega arith, at_u, at_v)
pushed_both (a ∷ xs) (b ∷ ys) x y (suc z) u v e at_u at_v = elim (pushed_both xs ys x y z u v (omega (arith, e)) at_u at_v) [
  | inl last ↦ inl (omega (arith, last.0), last.1, last.2)
  | inr before ↦ inr (omega (arith, before.0), before.1, before.2)
]

-- a place of a list with one more at its end that is within the list
pub before_pushed : {X : Type 0} (xs : List X) (x : X) (z : ℕ) (y : X) → z < length xs → slice_get (xs ++ x ∷ []) z ≡ Some y → slice_get xs z ≡ Some y
before_pushed [] x z y within at = absurd (omega (arith, within))
before_pushed (w ∷ xs) x zero y within at = at
before_pushed (w ∷ xs) x (suc z) y within at = before_pushed xs x z y (omega (arith, within)) at

-- what a list with one place written has at a place: what was written, or what was there
pub written : {X : Type 0} (xs : List X) (p : ℕ) (x : X) (z : ℕ) (y : X) → slice_get (slice_set xs p x) z ≡ Some y → ((z ≡ p) × (x ≡ y)) ⊎ ((z ≢ p) × (slice_get xs z ≡ Some y))
written [] p x z y at = absurd (none-some y at)
written (w ∷ xs) zero x zero y at = inl (refl, same_Some x y at)
written (w ∷ xs) zero x (suc z) y at = inr (omega arith, at)
written (w ∷ xs) (suc p) x zero y at = inr (omega arith, at)
written (w ∷ xs) (suc p) x (suc z) y at = elim (written xs p x z y at) [
  | inl here ↦ inl (omega (arith, here.0), here.1)
  | inr other ↦ inr (omega (arith, other.0), other.1)
]

pub All_there : {X : Type 0} (P : X → Type 0) (xs : List X) → ((i : ℕ) (x : X) → slice_get xs i ≡ Some x → P x) → All P xs
All_there P [] each = All-nil P
All_there P (x ∷ xs) each = All-cons P x xs (each zero x refl) (All_there P xs (λ i y is. each (suc i) y is))

pub All_get : {X : Type 0} (P : X → Type 0) (xs : List X) (i : ℕ) (x : X) → All P xs → slice_get xs i ≡ Some x → P x
All_get P xs i x all at = subst P (get_or_from_slice_get xs i x x at) (all i x (slice_get_within xs i x at))

pub below_all : {z n parent : ℕ} → parent < z → z < n → parent < n
below_all e f = omega arith

pub at_most : {z n : ℕ} → z < n → z ≤ n
at_most e = omega arith

pub less_than_eight : {a b c : ℕ} → a ≡ b → b ≤ c → c < 8 → a < 8
less_than_eight e f g = omega arith

pub behind_all : {z n : ℕ} → z ≡ n → n ≤ z
behind_all e = omega arith

pub no_sum : {a b c : ℕ} → a ≡ b + c → b ≡ 0 → c ≡ 0 → a ≡ 0
no_sum e f g = omega arith

-- a sum of nothing but 0
pub sum_none : {X : Type 0} (f : X → ℕ) (xs : List X) → ((n : ℕ) (x : X) → slice_get xs n ≡ Some x → f x ≡ 0) → sum_by f xs ≡ 0
sum_none f [] each = refl
sum_none f (x ∷ xs) each = no_sum (sum_by-cons f x xs) (each zero x refl) (sum_none f xs (λ n y at. each (suc n) y at))

pub not_below : (i count n : ℕ) → count ≤ i → count ≡ n → n ≤ i
not_below i count n past e = omega arith
