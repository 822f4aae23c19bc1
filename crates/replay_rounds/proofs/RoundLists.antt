-- Two lists of one length, place by place: a fact of each place, as one of the whole lists.
use Rattle.std.proofs.Common.{◌≡◌, ℕ, zero, suc, ◌+◌, List, [], ◌∷◌, Bool, false, cond, Some, refl, sym, ap, ◌∙◌, arith, length, map, get_or}
use Rattle.std.proofs.lemmas.List.Sums.{sum_by-cons}
use Rattle.std.proofs.lemmas.Option.{none-some, same_Some, slice_get-get_or, slice_get_within}
use Rattle.std.specs.List.{sum_by}
use Rattle.std.specs.Prelude.{count_by, slice_get}

-- what is one at each place
pub map-same : {A B : Type 0} (f : A → B) (xs ys : List A) → length ys ≡ length xs → ((n : ℕ) (x y : A) → slice_get xs n ≡ Some x → slice_get ys n ≡ Some y → f y ≡ f x) → map f ys ≡ map f xs
map-same f [] [] size same = refl
map-same f [] (y ∷ ys) size same = absurd (omega arith)
map-same f (x ∷ xs) [] size same = absurd (omega arith)
map-same {A} {B} f (x ∷ xs) (y ∷ ys) size same =
    let rest : map f ys ≡ map f xs = map-same f xs ys (omega arith) (λ n. same (suc n)) in
    ap (λ (b : B). b ∷ map f ys) (same 0 x y refl refl) ∙ ap (λ (list : List B). f x ∷ list) rest

-- what stands at the same place of the one list
pub record Before {A B : Type 0} (f : A → B) (xs : List A) (n : ℕ) (y : A) : Type 0 where
  pub was : A
  pub at : slice_get xs n ≡ Some was
  pub same : f y ≡ f was

head_same : {B : Type 0} (a b : B) (l r : List B) → a ∷ l ≡ b ∷ r → a ≡ b
head_same a b l r e = cc

tail_same : {B : Type 0} (a b : B) (l r : List B) → a ∷ l ≡ b ∷ r → l ≡ r
tail_same a b l r e = cc

pub before : {A B : Type 0} (f : A → B) (xs ys : List A) (n : ℕ) (y : A) → map f ys ≡ map f xs → slice_get ys n ≡ Some y → Before f xs n y
before f xs [] n y same at = absurd (none-some y at)
before f [] (first ∷ ys) n y same at = absurd (let never : f first ∷ map f ys ≡ [] = same in cc)
before f (x ∷ xs) (first ∷ ys) zero y same at =
    record { was = x; at = refl; same = ap f (sym (same_Some first y at)) ∙ head_same (f first) (f x) (map f ys) (map f xs) same }
before f (x ∷ xs) (first ∷ ys) (suc n) y same at =
    let rest = before f xs ys n y (tail_same (f first) (f x) (map f ys) (map f xs) same) at in
    record { was = rest.was; at = rest.at; same = rest.same }

-- the element before, of a list as long
pub at_other : {A : Type 0} (xs ys : List A) (n : ℕ) (y : A) → length ys ≡ length xs → slice_get ys n ≡ Some y → slice_get xs n ≡ Some (get_or xs n y)
at_other xs ys n y size at = slice_get-get_or xs n y (omega (arith, slice_get_within ys n y at))

-- three counts that go together at each place go together in sum
pub sums_balance : {A : Type 0} (f g h : A → ℕ) (xs ys : List A) → length ys ≡ length xs
    → ((n : ℕ) (x y : A) → slice_get xs n ≡ Some x → slice_get ys n ≡ Some y → f y + g y + h x ≡ f x + g x + h y)
    → sum_by f ys + sum_by g ys + sum_by h xs ≡ sum_by f xs + sum_by g xs + sum_by h ys
sums_balance f g h [] [] size each = refl
sums_balance f g h [] (y ∷ ys) size each = absurd (omega arith)
sums_balance f g h (x ∷ xs) [] size each = absurd (omega arith)
sums_balance f g h (x ∷ xs) (y ∷ ys) size each =
    omega (
      arith,
      sum_by-cons f y ys,
      sum_by-cons g y ys,
      sum_by-cons h y ys,
      sum_by-cons f x xs,
      sum_by-cons g x xs,
      sum_by-cons h x xs,
      each 0 x y refl refl,
      sums_balance f g h xs ys (omega arith) (λ n. each (suc n)),
    )

-- the sums before, and so the sums after
pub sums_still : {h h' : ℕ} (f g f' g' : ℕ) → f + g ≡ h → f' + g' + h ≡ f + g + h' → f' + g' ≡ h'
sums_still f g f' g' e d = omega arith

abbrev counted : Bool → ℕ
counted b = cond b 1 0

-- a test that no element passes
pub count-none : {A : Type 0} (p : A → Bool) (xs : List A) → ((n : ℕ) (x : A) → slice_get xs n ≡ Some x → p x ≡ false) → count_by p xs ≡ 0
count-none p [] none = refl
count-none {A} p (x ∷ xs) none =
    let unit : A → ℕ = λ y. cond (p y) 1 0 in
    let first : unit x ≡ 0 = ap counted (none 0 x refl) in
    omega (arith, sum_by-cons unit x xs, first, count-none p xs (λ n. none (suc n)))
