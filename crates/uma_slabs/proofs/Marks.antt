-- The truth values of a slab's places: counted, found and changed.
use Rattle.std.proofs.Common.{◌≡◌, ◌≢◌, ℕ, zero, suc, ◌+◌, ◌<◌, ◌≤◌, Bool, true, false, not, cond, List, [], ◌∷◌, length, set, get_or, Option, Some, IsSome, count_by, arith, refl, sym}
use Rattle.std.specs.List.{All, slice_get, position, position_or_len}
use Rattle.std.proofs.lemmas.List.Sums.{sum_by-cons, sum_by-set, sum_by-le, get_or-le-sum_by, passes_at_first}
use Rattle.std.proofs.lemmas.List.Quantifiers.{position-Some}
use Rattle.std.proofs.lemmas.Bool.{lt-ltb}
use Rattle.std.proofs.lemmas.Option.{slice_get_within, get_or_from_slice_get, slice_get-get_or}

within_cons : (b : Bool) (n m k : ℕ) → (0 < n → m < k) → 0 < cond b 1 0 + n → cond (not b) (1 + m) 0 < suc k
within_cons true n m k rest some = omega arith
within_cons false n m k rest some = omega (arith, rest (omega arith))

-- where some element passes, the first that passes stands within the list
pub first_within : {X : Type 0} (p : X → Bool) (xs : List X) → 0 < count_by p xs → position_or_len p xs < length xs
first_within p [] some = absurd (omega arith)
first_within {X} p (x ∷ xs) some =
    within_cons (p x) (count_by p xs) (position_or_len p xs) (length xs) (first_within p xs)
    (omega (arith, sum_by-cons (λ (y : X). cond (p y) 1 0) x xs))

pub position_counted : {X : Type 0} (p : X → Bool) (xs : List X) → 0 < count_by p xs → position p xs ≡ Some (position_or_len p xs)
position_counted p xs some = rw (lt-ltb (position_or_len p xs) (length xs) (first_within p xs some))

pub found : (r : Option ℕ) (free : List Bool) → r ≡ position (λ b. b) free → 0 < count_by (λ b. b) free → IsSome r
found r free is some = rw (is, position_counted (λ (b : Bool). b) free some) refl

-- the place that is found is free, and none before it is
pub found_free : (free : List Bool) (place : ℕ) → position (λ b. b) free ≡ Some place → slice_get free place ≡ Some true
found_free free place is =
    let at = position-Some (λ (b : Bool). b) free place false is in
    rw (slice_get-get_or free place false at.0, at.1)

-- a place that is free, and one that isn't, are counted
pub free_counts : (free : List Bool) (place : ℕ) → slice_get free place ≡ Some true → 0 < count_by (λ b. b) free
free_counts free place is =
    let within = slice_get_within free place true is in
    let value = get_or_from_slice_get free place true false is in
    let counted = get_or-le-sum_by (λ (b : Bool). cond b 1 0) free place false within in
    grind (arith, value, counted)

pub used_counts : (free : List Bool) (place : ℕ) → slice_get free place ≡ Some false → 0 < count_by not free
used_counts free place is =
    let within = slice_get_within free place false is in
    let value = get_or_from_slice_get free place false false is in
    let counted = get_or-le-sum_by (λ (b : Bool). cond (not b) 1 0) free place false within in
    grind (arith, value, counted)

-- each element passes or doesn't
pub count_and_rest : {X : Type 0} (p : X → Bool) (xs : List X) → count_by p xs + count_by (λ x. not (p x)) xs ≡ length xs
count_and_rest p [] = refl
count_and_rest {X} p (x ∷ xs) =
    let one : cond (p x) 1 0 + cond (not (p x)) 1 0 ≡ 1 = elim (p x) as (λ v. cond v 1 0 + cond (not v) 1 0 ≡ 1) [ true ↦ refl | false ↦ refl ] in
    omega (arith, count_and_rest p xs, sum_by-cons (λ (y : X). cond (p y) 1 0) x xs, sum_by-cons (λ (y : X). cond (not (p y)) 1 0) x xs)

-- each place is free or used
pub free_and_used : (free : List Bool) → count_by (λ b. b) free + count_by not free ≡ length free
free_and_used free = count_and_rest (λ (b : Bool). b) free

-- where one doesn't pass, fewer pass than there are
pub count_less : {X : Type 0} (p : X → Bool) (xs : List X) (i : ℕ) (d : X) → i < length xs → p (get_or xs i d) ≡ false → count_by p xs < length xs
count_less {X} p xs i d within fails =
    let counted = get_or-le-sum_by (λ (x : X). cond (not (p x)) 1 0) xs i d within in
    let all = count_and_rest p xs in
    let one : 1 ≤ cond (not (p (get_or xs i d))) 1 0 = rw fails (omega arith) in
    omega (arith, one, counted, all)

-- where all pass, as many pass as there are
pub count_all : {X : Type 0} (p : X → Bool) (xs : List X) → All (λ x. cond (not (p x)) 1 0 ≤ 0) xs → count_by p xs ≡ length xs
count_all {X} p xs each =
    let none = sum_by-le (λ (x : X). cond (not (p x)) 1 0) 0 xs each in
    let all = count_and_rest p xs in
    omega (arith, none, all)

-- where some are free, the first of them is; where some are used, there is one
pub some_free : (free : List Bool) → 0 < count_by (λ b. b) free → slice_get free (position_or_len (λ b. b) free) ≡ Some true
some_free free some =
    let within = first_within (λ (b : Bool). b) free some in
    let passes = passes_at_first (λ (b : Bool). b) free false within in
    rw (slice_get-get_or free (position_or_len (λ b. b) free) false within, passes)

not_true : (b : Bool) → not b ≡ true → b ≡ false
not_true true e = sym e
not_true false e = refl

pub some_used : (free : List Bool) → 0 < count_by not free → (place : ℕ) × (slice_get free place ≡ Some false)
some_used free some =
    let within = first_within not free some in
    let passes = passes_at_first not free false within in
    let used : get_or free (position_or_len not free) false ≡ false = not_true _ passes in
    (position_or_len not free, rw (slice_get-get_or free (position_or_len not free) false within, used))

-- a place that was used is free: one more is counted, and one less the other way round
pub count_freed : (free : List Bool) (place : ℕ) → slice_get free place ≡ Some false → count_by (λ b. b) (set free place true) ≡ count_by (λ b. b) free + 1
count_freed free place is =
    let within = slice_get_within free place false is in
    let value = get_or_from_slice_get free place false false is in
    let counted = sum_by-set (λ (b : Bool). cond b 1 0) free place true false within in
    grind (arith, value, counted)

pub count_used : (free : List Bool) (place : ℕ) → slice_get free place ≡ Some true → count_by (λ b. b) (set free place false) + 1 ≡ count_by (λ b. b) free
count_used free place is =
    let within = slice_get_within free place true is in
    let value = get_or_from_slice_get free place true false is in
    let counted = sum_by-set (λ (b : Bool). cond b 1 0) free place false false within in
    grind (arith, value, counted)

-- a change of one place is seen there and nowhere else
pub slice_get-set_same : (free : List Bool) (place : ℕ) (b : Bool) → place < length free → slice_get (set free place b) place ≡ Some b
slice_get-set_same [] place b within = absurd (omega arith)
slice_get-set_same (x ∷ free) zero b within = refl
slice_get-set_same (x ∷ free) (suc place) b within = slice_get-set_same free place b (omega arith)

pub slice_get-set_other : (free : List Bool) (place other : ℕ) (b : Bool) → other ≢ place → slice_get (set free place b) other ≡ slice_get free other
slice_get-set_other [] place other b ne = refl
slice_get-set_other (x ∷ free) zero zero b ne = absurd (ne refl)
slice_get-set_other (x ∷ free) zero (suc other) b ne = refl
slice_get-set_other (x ∷ free) (suc place) zero b ne = refl
slice_get-set_other (x ∷ free) (suc place) (suc other) b ne = slice_get-set_other free place other b (λ e. ne (omega arith))
