-- Sums of a function over the numbers from one on, so many of them.
use Rattle.std.proofs.Common.{◌≡◌, ◌≢◌, ℕ, zero, suc, ◌+◌, ◌<◌, ◌≤◌, inl, inr, ◌⊎◌, List, [], ◌∷◌, Bool, true, cond, Some, refl, sym, ap, ◌∙◌, arith, length}
use Rattle.std.proofs.lemmas.Bool.{cases_eq, cases_Bool}
use Rattle.std.proofs.lemmas.List.Sums.{sum_by-cons}
use Rattle.std.specs.Prelude.{slice_get, count_by}

-- the sum of `f` over the `n` numbers from `a` on
unfoldable pub upto : (ℕ → ℕ) → ℕ → ℕ → ℕ
upto f a zero = 0
upto f a (suc n) = f a + upto f (suc a) n

pub upto-none : (f : ℕ → ℕ) (a : ℕ) → upto f a 0 ≡ 0
unfolding upto
upto-none f a = refl

pub upto-more : (f : ℕ → ℕ) (a n : ℕ) → upto f a (suc n) ≡ f a + upto f (suc a) n
unfolding upto
upto-more f a n = refl

-- functions that agree on these numbers
pub upto-same : (f g : ℕ → ℕ) (a n : ℕ) → ((i : ℕ) → a ≤ i → i < a + n → f i ≡ g i) → upto f a n ≡ upto g a n
upto-same f g a zero same = upto-none f a ∙ sym (upto-none g a)
upto-same f g a (suc n) same =
    let here : f a ≡ g a = same a (omega arith) (omega arith) in
    let rest : upto f (suc a) n ≡ upto g (suc a) n = upto-same f g (suc a) n (λ i from to. same i (omega arith) (omega arith)) in
    omega (arith, upto-more f a n, upto-more g a n, here, rest)

-- functions that agree but at one of these numbers
pub upto-point : (f g : ℕ → ℕ) (a n i : ℕ) → a ≤ i → i < a + n → ((j : ℕ) → j ≢ i → f j ≡ g j) → upto f a n + g i ≡ upto g a n + f i
upto-point f g a zero i from to same = absurd (omega arith)
upto-point f g a (suc n) i from to same = elim (cases_eq a i) [
  | inl here ↦
      let rest : upto f (suc a) n ≡ upto g (suc a) n = upto-same f g (suc a) n (λ j past below. same j (λ e. absurd (omega arith))) in
      let left : f a ≡ f i = ap f here in
      let right : g a ≡ g i = ap g here in
      omega (arith, upto-more f a n, upto-more g a n, rest, left, right)
  | inr apart ↦
      let first : f a ≡ g a = same a apart in
      let past : suc a ≤ i = omega arith in
      let rest : upto f (suc a) n + g i ≡ upto g (suc a) n + f i = upto-point f g (suc a) n i past (omega arith) same in
      omega (arith, upto-more f a n, upto-more g a n, first, rest)
]

-- a sum of sums
pub upto-add : (f g : ℕ → ℕ) (a n : ℕ) → upto (λ i. f i + g i) a n ≡ upto f a n + upto g a n
upto-add f g a zero = omega (arith, upto-none (λ i. f i + g i) a, upto-none f a, upto-none g a)
upto-add f g a (suc n) = omega (arith, upto-more (λ i. f i + g i) a n, upto-more f a n, upto-more g a n, upto-add f g (suc a) n)

pub upto-le : (f g : ℕ → ℕ) (a n : ℕ) → ((i : ℕ) → a ≤ i → i < a + n → f i ≤ g i) → upto f a n ≤ upto g a n
upto-le f g a zero below = omega (arith, upto-none f a, upto-none g a)
upto-le f g a (suc n) below =
    let here : f a ≤ g a = below a (omega arith) (omega arith) in
    omega (arith, upto-more f a n, upto-more g a n, here, upto-le f g (suc a) n (λ i from to. below i (omega arith) (omega arith)))

-- ---- the same over two numbers

unfoldable pub over : (ℕ → ℕ → ℕ) → ℕ → ℕ → ℕ
over f count size = upto (λ n. upto (f n) 0 size) 0 count

-- functions that agree but at one place
pub over-point : (f g : ℕ → ℕ → ℕ) (count size n i : ℕ) → n < count → i < size → ((m j : ℕ) → (m ≢ n) ⊎ (j ≢ i) → f m j ≡ g m j)
    → over f count size + g n i ≡ over g count size + f n i
unfolding over
over-point f g count size n i is_row is_place same =
    let rows : over f count size + upto (g n) 0 size ≡ over g count size + upto (f n) 0 size =
    upto-point (λ m. upto (f m) 0 size) (λ m. upto (g m) 0 size) 0 count n (omega arith) (omega arith) (λ m apart. upto-same (f m) (g m) 0 size (λ j from to. same m j (inl apart))) in
    let row : upto (f n) 0 size + g n i ≡ upto (g n) 0 size + f n i = upto-point (f n) (g n) 0 size i (omega arith) (omega arith) (λ j apart. same n j (inr apart)) in
    omega (arith, rows, row)

pub over-same : (f g : ℕ → ℕ → ℕ) (count size : ℕ) → ((m j : ℕ) → f m j ≡ g m j) → over f count size ≡ over g count size
unfolding over
over-same f g count size same = upto-same (λ m. upto (f m) 0 size) (λ m. upto (g m) 0 size) 0 count (λ m from to. upto-same (f m) (g m) 0 size (λ j past below. same m j))

-- a list has no more elements of a kind than a function counts at their places
pub count-upto : {A : Type 0} (p : A → Bool) (xs : List A) (f : ℕ → ℕ) (a size : ℕ) → length xs ≤ size
    → ((i : ℕ) (x : A) → slice_get xs i ≡ Some x → p x ≡ true → 1 ≤ f (a + i)) → count_by p xs ≤ upto f a size
count-upto p [] f a size few each = omega arith
count-upto p (x ∷ xs) f a zero few each = absurd (omega arith)
count-upto p (x ∷ xs) f a (suc size) few each =
    let rest : count_by p xs ≤ upto f (suc a) size = count-upto p xs f (suc a) size (omega arith)
    (λ i y at is. omega (arith, each (suc i) y at is, ap f (let e : a + suc i ≡ suc a + i = omega arith in e))) in
    let unit : Bool → ℕ = λ b. cond b 1 0 in
    let first : cond (p x) 1 0 ≤ f a = elim (cases_Bool (p x)) [
      | inl is ↦ let at : f (a + 0) ≡ f a = ap f (let e : a + 0 ≡ a = omega arith in e) in let one : cond (p x) 1 0 ≡ 1 = ap unit is in omega (arith, each 0 x refl is, at, one)
      | inr not ↦ let none : cond (p x) 1 0 ≡ 0 = ap unit not in omega (arith, none)
    ] in
    omega (arith, sum_by-cons (λ y. cond (p y) 1 0) x xs, upto-more f a size, first, rest)

pub upto-zero : (f : ℕ → ℕ) (a n : ℕ) → ((i : ℕ) → f i ≡ 0) → upto f a n ≡ 0
upto-zero f a zero none = upto-none f a
upto-zero f a (suc n) none = omega (arith, upto-more f a n, none a, upto-zero f (suc a) n none)

pub over-zero : (f : ℕ → ℕ → ℕ) (count size : ℕ) → ((m j : ℕ) → f m j ≡ 0) → over f count size ≡ 0
unfolding over
over-zero f count size none = upto-zero (λ m. upto (f m) 0 size) 0 count (λ m. upto-zero (f m) 0 size (none m))

pub over-rows : (f : ℕ → ℕ → ℕ) (count size : ℕ) → upto (λ n. upto (f n) 0 size) 0 count ≡ over f count size
unfolding over
over-rows f count size = refl
