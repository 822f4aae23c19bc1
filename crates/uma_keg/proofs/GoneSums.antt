-- What the items of a slab that goes add to the sums.
use Rattle.std.proofs.Common.{◌≡◌, ◌≢◌, ◌≤◌, ◌<◌, ◌+◌, ◌*◌, ◌/◌, ◌%◌, ◌⊎◌, ℕ, zero, suc, List, [], ◌∷◌, Option, Some, None, length, get_or, sum_by, inl, inr, refl, arith, ap, sym, ◌∙◌}
use Rattle.std.proofs.lemmas.Bool.{cases_eq}
use Rattle.std.proofs.lemmas.List.Sums.{sum_by-cons}
use Rattle.std.proofs.lemmas.Nat.{div_below, le-div, div-mul-add, mod-mul-add}
use Rattle.uma_life.specs.declared.states.Stored.{Stored}
use Rattle.uma_life.specs.Hook.{Hook}
use Rattle.uma_keg.specs.Tallies.{ended_times, sum_below}
use Rattle.uma_keg.specs.FreeSlabs.{times_gone}
use Rattle.uma_keg.proofs.TallyLaws.{sum_below-none}

one_more : (f : ℕ → ℕ) (n : ℕ) → sum_below f (suc n) ≡ sum_below f n + f n
unfolding sum_below
one_more f n = refl

-- a sum of zeros
sum_below-zero : (f : ℕ → ℕ) (n : ℕ) → ((k : ℕ) → k < n → f k ≡ 0) → sum_below f n ≡ 0
sum_below-zero f zero each = sum_below-none f
sum_below-zero f (suc n) each =
    let rest : sum_below f n ≡ 0 = sum_below-zero f n (λ k below. each k (omega arith)) in
    let here : f n ≡ 0 = each n (omega arith) in
    omega (arith, one_more f n, rest, here)

-- a sum in two parts
sum_below-split : (f : ℕ → ℕ) (a b : ℕ) → sum_below f (a + b) ≡ sum_below f a + sum_below (λ k. f (a + k)) b
sum_below-split f a zero =
    let all : a + 0 ≡ a = omega arith in
    omega (arith, ap (sum_below f) all, sum_below-none (λ k. f (a + k)))
sum_below-split f a (suc b) =
    let next : a + suc b ≡ suc (a + b) = omega arith in
    let last : sum_below (λ k. f (a + k)) (suc b) ≡ sum_below (λ k. f (a + k)) b + f (a + b) = one_more (λ k. f (a + k)) b in
    omega (arith, ap (sum_below f) next, one_more f (a + b), last, sum_below-split f a b)

first_more : (f : ℕ → ℕ) (n : ℕ) → sum_below f (suc n) ≡ f 0 + sum_below (λ k. f (suc k)) n
first_more f zero = omega (arith, one_more f 0, sum_below-none f, sum_below-none (λ k. f (suc k)))
first_more f (suc n) =
    let last : sum_below (λ k. f (suc k)) (suc n) ≡ sum_below (λ k. f (suc k)) n + f (suc n) = one_more (λ k. f (suc k)) n in
    omega (arith, one_more f (suc n), last, first_more f n)

-- the sum over a list, by its places
sum_below-list : {X : Type 0} (F : Option X → ℕ) (xs : List (Option X)) (f : ℕ → ℕ) → ((k : ℕ) → k < length xs → f k ≡ F (get_or xs k None)) → sum_below f (length xs) ≡ sum_by F xs
sum_below-list F [] f each = sum_below-none f
sum_below-list F (x ∷ xs) f each =
    let here : f 0 ≡ F x = each 0 (omega arith) in
    let rest : sum_below (λ k. f (suc k)) (length xs) ≡ sum_by F xs = sum_below-list F xs (λ k. f (suc k)) (λ k below. each (suc k) (omega arith)) in
    omega (arith, first_more f (length xs), here, rest, sum_by-cons F x xs)

-- a sum of two functions
pub sum_below-add : (f g h : ℕ → ℕ) → ((n : ℕ) → f n ≡ g n + h n) → (m : ℕ) → sum_below f m ≡ sum_below g m + sum_below h m
sum_below-add f g h each zero = omega (arith, sum_below-none f, sum_below-none g, sum_below-none h)
sum_below-add f g h each (suc m) = omega (arith, one_more f m, one_more g m, one_more h m, each m, sum_below-add f g h each m)

lower_slab : (p i k : ℕ) → 1 ≤ p → k < i * p → k / p ≢ i
lower_slab p i k some below at = let lower = div_below k p i some below in omega (arith, at, lower)

upper_slab : (p i k : ℕ) → 1 ≤ p → ((i * p + p) + k) / p ≢ i
upper_slab p i k some at = let upper = le-div (i + 1) ((i * p + p) + k) p some (omega arith) in omega (arith, at, upper)

-- where a function is 0 but in one slab, the slab is the sum
in_one_slab : (f : ℕ → ℕ) (p i rest : ℕ) → 1 ≤ p → ((n : ℕ) → n / p ≢ i → f n ≡ 0) → sum_below f ((i + 1 + rest) * p) ≡ sum_below (λ k. f (i * p + k)) p
in_one_slab f p i rest some elsewhere =
    let size : (i + 1 + rest) * p ≡ (i * p + p) + rest * p = omega arith in
    let lower : sum_below f (i * p) ≡ 0 = sum_below-zero f (i * p) (λ k below. elsewhere k (lower_slab p i k some below)) in
    let upper : sum_below (λ k. f ((i * p + p) + k)) (rest * p) ≡ 0 = sum_below-zero (λ k. f ((i * p + p) + k)) (rest * p) (λ k below. elsewhere ((i * p + p) + k) (upper_slab p i k some)) in
    omega (arith, ap (sum_below f) size, sum_below-split f (i * p + p) (rest * p), sum_below-split f (i * p) p, lower, upper)

same_gone : {T : Type 0} {g : _} (hook : Hook) (o : Option (Stored T g)) → times_gone hook o o ≡ 0
same_gone hook None = refl
same_gone hook (Some item) = refl

-- the items of one slab, which are at home no more
slab_rest : {T : Type 0} {g : _} (hook : Hook) (old new : ℕ → Option (Stored T g)) (items : List (Option (Stored T g))) (p i rest : ℕ) → 1 ≤ p → length items ≡ p
    → ((n : ℕ) → n / p ≡ i → new n ≡ None) → ((n : ℕ) → n / p ≢ i → new n ≡ old n) → ((n : ℕ) → n / p ≡ i → old n ≡ get_or items (n % p) None)
    → sum_below (λ n. times_gone hook (old n) (new n)) ((i + 1 + rest) * p) ≡ sum_by (ended_times hook) items
slab_rest {T} {g} hook old new items p i rest some len gone others were =
    let elsewhere : (n : ℕ) → n / p ≢ i → times_gone hook (old n) (new n) ≡ 0 = λ n other. rw (others n other) (same_gone hook (old n)) in
    let each : (k : ℕ) → k < length items → times_gone hook (old (i * p + k)) (new (i * p + k)) ≡ ended_times hook (get_or items k None) = λ k below.
    let small : k < p = omega (arith, below, len) in
    let at : (i * p + k) / p ≡ i = div-mul-add i p k small in
    rw (gone (i * p + k) at) (ap (ended_times {T = T} {g = g} hook) (were (i * p + k) at ∙ ap (λ q. get_or items q None) (mod-mul-add i p k small))) in
    in_one_slab (λ n. times_gone hook (old n) (new n)) p i rest some elsewhere
    ∙ ap (sum_below (λ k. times_gone hook (old (i * p + k)) (new (i * p + k)))) (sym len)
    ∙ sum_below-list (ended_times {T = T} {g = g} hook) items (λ k. times_gone hook (old (i * p + k)) (new (i * p + k))) each

more_than : (i cap : ℕ) → i < cap → (rest : ℕ) × (cap ≡ i + 1 + rest)
more_than i zero below = absurd (omega (arith, below))
more_than i (suc cap) below = elim (cases_eq i cap) [
  | inl last ↦ (0, omega (arith, last))
  | inr other ↦ let before = more_than i cap (omega (arith, below, other)) in (suc before.0, omega (arith, before.1))
]

pub slab_gone : {T : Type 0} {g : _} (hook : Hook) (old new : ℕ → Option (Stored T g)) (items : List (Option (Stored T g))) (cap p i : ℕ) → i < cap → 1 ≤ p → length items ≡ p
    → ((n : ℕ) → n / p ≡ i → new n ≡ None) → ((n : ℕ) → n / p ≢ i → new n ≡ old n) → ((n : ℕ) → n / p ≡ i → old n ≡ get_or items (n % p) None)
    → sum_below (λ n. times_gone hook (old n) (new n)) (cap * p) ≡ sum_by (ended_times hook) items
slab_gone hook old new items cap p i below some len gone others were =
    let split = more_than i cap below in
    ap (λ c. sum_below (λ n. times_gone hook (old n) (new n)) (c * p)) split.1 ∙ slab_rest hook old new items p i split.0 some len gone others were

-- what went in two steps
pub gone_twice : {T : Type 0} {g : _} (hook : Hook) (old mid new : Option (Stored T g)) → (mid ≡ old) ⊎ (mid ≡ None) → (new ≡ mid) ⊎ (new ≡ None) → times_gone hook old new ≡ times_gone hook old mid + times_gone hook mid new
gone_twice hook old mid new (inl same) either = rw same (omega (arith, same_gone hook old))
gone_twice hook old mid new (inr none) (inl same) = let gone : new ≡ None = same ∙ none in rw (gone, none) (omega arith)
gone_twice hook old mid new (inr none) (inr gone) = rw (gone, none) (omega arith)

-- where nothing went, nothing is added
pub same_sums : {T : Type 0} {g : _} (hook : Hook) (items : ℕ → Option (Stored T g)) (m : ℕ) → sum_below (λ n. times_gone hook (items n) (items n)) m ≡ 0
same_sums hook items m = sum_below-zero (λ n. times_gone hook (items n) (items n)) m (λ k below. same_gone hook (items k))

-- two functions that agree have one sum
pub sum_below-same : (f h : ℕ → ℕ) → ((n : ℕ) → f n ≡ h n) → (m : ℕ) → sum_below f m ≡ sum_below h m
sum_below-same f h each zero = sum_below-none f ∙ sym (sum_below-none h)
sum_below-same f h each (suc m) = omega (arith, one_more f m, one_more h m, each m, sum_below-same f h each m)
