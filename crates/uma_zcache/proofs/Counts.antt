-- How a count changes where an item is added or an entry is changed.
use Rattle.std.proofs.Common.{◌≡◌, ◌≢◌, ◌≤◌, ◌<◌, ◌+◌, ◌==◌, ℕ, zero, suc, Bool, true, false, cond, List, [], ◌∷◌, ◌++◌, Option, Some, None, replicate, set, get_or, refl, sym, ap, ◌∙◌, subst, arith, eq-eqb}
use Rattle.std.specs.Prelude.{slice_get, count_by}
use Rattle.std.proofs.lemmas.Bool.{ne_eqb}
use Rattle.std.proofs.lemmas.List.Sums.{sum_by-cons, sum_by_push, sum_by-set, get_or-le-sum_by}
use Rattle.std.proofs.lemmas.Option.{slice_get_within, get_or_from_slice_get, slice_get-get_or}
use Rattle.uma_zcache.specs.Bases.{times}
use Rattle.uma_zcache.specs.Entries.{is_out_at, is_out}
use Rattle.uma_zcache.specs.HomeList.{home_once}

-- 1 where a test passes
pub one : Bool → ℕ
one b = cond b 1 0

pub one_yes : (b : Bool) → b ≡ true → one b ≡ 1
unfolding one
one_yes b is = rw is refl

pub one_no : (b : Bool) → b ≡ false → one b ≡ 0
unfolding one
one_no b is = rw is refl

pub times_push : (b : ℕ) (xs : List ℕ) (y : ℕ) → times b (xs ++ y ∷ []) ≡ times b xs + one (y == b)
unfolding one
times_push b xs y = sum_by_push (λ x. cond (x == b) 1 0) xs y

pub times_cons : (b y : ℕ) (xs : List ℕ) → times b (y ∷ xs) ≡ one (y == b) + times b xs
unfolding one
times_cons b y xs = sum_by-cons (λ x. cond (x == b) 1 0) y xs

pub times_push_same : (b : ℕ) (xs : List ℕ) (y : ℕ) → y ≡ b → times b (xs ++ y ∷ []) ≡ times b xs + 1
times_push_same b xs y same = omega (arith, times_push b xs y, one_yes (y == b) (eq-eqb y b same))

pub times_push_other : (b : ℕ) (xs : List ℕ) (y : ℕ) → y ≢ b → times b (xs ++ y ∷ []) ≡ times b xs
times_push_other b xs y ne = omega (arith, times_push b xs y, one_no (y == b) (ne_eqb y b ne))

-- an entry changes
pub count_set : (p : Option ℕ → Bool) (xs : List (Option ℕ)) (i : ℕ) (was is : Option ℕ) → slice_get xs i ≡ Some was → count_by p (set xs i is) + one (p was) ≡ count_by p xs + one (p is)
unfolding one
count_set p xs i was is at =
    let here : get_or xs i was ≡ was = get_or_from_slice_get xs i was was at in
    let P : Option ℕ → Type 0 = λ e. count_by p (set xs i is) + cond (p e) 1 0 ≡ count_by p xs + cond (p is) 1 0 in
    subst P here (sum_by-set (λ x. cond (p x) 1 0) xs i is was (slice_get_within xs i was at))

pub count_some : (p : Option ℕ → Bool) (xs : List (Option ℕ)) (i : ℕ) (was : Option ℕ) → slice_get xs i ≡ Some was → p was ≡ true → 1 ≤ count_by p xs
count_some p xs i was at passes =
    let here : get_or xs i was ≡ was = get_or_from_slice_get xs i was was at in
    let P : Option ℕ → Type 0 = λ e. cond (p e) 1 0 ≤ count_by p xs in
    let least : cond (p was) 1 0 ≤ count_by p xs = subst P here (get_or-le-sum_by (λ x. cond (p x) 1 0) xs i was (slice_get_within xs i was at)) in
    let Q : Bool → Type 0 = λ b. cond b 1 0 ≤ count_by p xs in
    subst Q passes least

-- a number that is listed is at home
pub home_listed : (o : Option (Option ℕ)) → 1 ≤ home_once o → o ≡ Some None
home_listed None least = absurd (omega (arith, least))
home_listed (Some None) least = refl
home_listed (Some (Some base)) least = absurd (omega (arith, least))

pub home_at : (o : Option (Option ℕ)) → o ≡ Some None → home_once o ≡ 1
home_at o at = rw at refl

pub out_at : (o : Option (Option ℕ)) (base : ℕ) → o ≡ Some (Some base) → home_once o ≡ 0
out_at o base at = rw at refl

pub is_out_with : (o : Option (Option ℕ)) → is_out_at o ≡ true → (base : ℕ) × (o ≡ Some (Some base))
is_out_with None out = absurd (cc)
is_out_with (Some None) out = absurd (cc)
is_out_with (Some (Some base)) out = (base, refl)

pub get_replicate : (n i : ℕ) → i < n → slice_get (replicate n (let o : Option ℕ = None in o)) i ≡ Some None
get_replicate zero i below = absurd (omega (arith, below))
get_replicate (suc n) zero below = refl
get_replicate (suc n) (suc i) below = get_replicate n i (omega (arith, below))

add_none : (b : Bool) (n : ℕ) → b ≡ false → n ≡ 0 → cond b 1 0 + n ≡ 0
add_none true n fails none = absurd (cc)
add_none false n fails none = omega (arith, none)

pub count_replicate : (p : Option ℕ → Bool) (n : ℕ) → p None ≡ false → count_by p (replicate n None) ≡ 0
count_replicate p zero fails = refl
count_replicate p (suc n) fails = sum_by-cons (λ x. cond (p x) 1 0) None (replicate n None) ∙ add_none (p None) (count_by p (replicate n None)) fails (count_replicate p n fails)

pub get_set_here : {A : Type 0} (l : List A) (i : ℕ) (a b : A) → slice_get l i ≡ Some b → slice_get (set l i a) i ≡ Some a
get_set_here [] i a b at = absurd (cc)
get_set_here (x ∷ xs) zero a b at = refl
get_set_here (x ∷ xs) (suc i) a b at = get_set_here xs i a b at

pub get_set_else : {A : Type 0} (l : List A) (i j : ℕ) (a : A) → j ≢ i → slice_get (set l i a) j ≡ slice_get l j
get_set_else [] i j a ne = refl
get_set_else (x ∷ xs) zero zero a ne = absurd (ne refl)
get_set_else (x ∷ xs) zero (suc j) a ne = refl
get_set_else (x ∷ xs) (suc i) zero a ne = refl
get_set_else (x ∷ xs) (suc i) (suc j) a ne = get_set_else xs i j a (λ e. ne (ap suc e))

-- a number that is out, read as an entry
pub read_out : (entries seen : List (Option ℕ)) (number base : ℕ) (found : Option ℕ) → seen ≡ entries → is_out seen number ≡ true → found ≡ get_or entries number found → found ≡ Some base → slice_get entries number ≡ Some (Some base)
read_out entries seen number base found same out read is =
    let here : is_out entries number ≡ true = subst (λ (l : List (Option ℕ)). is_out l number ≡ true) same out in
    let there = is_out_with (slice_get entries number) here in
    let within = slice_get_within entries number (Some there.0) there.1 in
    slice_get-get_or entries number found within ∙ ap Some (sym read ∙ is)
