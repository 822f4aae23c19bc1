-- Lists under an update or with one element more, read by `get_elem?` or by `slice_get`.
use Rattle.std.proofs.Common.{◌+◌, sum_by, arith, ◌≡◌, ◌≢◌, ◌⊎◌, ℕ, zero, suc, List, [], ◌∷◌, ◌++◌, length, set, Some, sym, refl, ap, inl, inr, ⊎_elim}
use Rattle.std.specs.Prelude.{slice_get}
use Rattle.std.proofs.lemmas.List.Sums.{sum_by-cons}
use mathlib.Core.Option.{some, some-injective, some-ne-none}
use lib.ListN.{get_elem?}

module _ {A : Type 0} where
  pub set_there : (l : List A) (i : ℕ) (a b : A) → get_elem? l i ≡ some b → get_elem? (set l i a) i ≡ some a
  set_there [] i a b e = absurd (some-ne-none b (sym e))
  set_there (x ∷ xs) zero a b e = refl
  set_there (x ∷ xs) (suc i) a b e = set_there xs i a b e

  pub here_after_snoc : (l : List A) (a b : A) (j : ℕ) → get_elem? (l ++ a ∷ []) j ≡ some b → (get_elem? l j ≡ some b) ⊎ ((j ≡ length l) × (a ≡ b))
  here_after_snoc [] a b zero e = inr (refl, some-injective a b e)
  here_after_snoc [] a b (suc j) e = absurd (some-ne-none b (sym e))
  here_after_snoc (x ∷ xs) a b zero e = inl e
  here_after_snoc (x ∷ xs) a b (suc j) e = ⊎_elim inl (λ t. inr (ap suc t.0, t.1)) (here_after_snoc xs a b j e)

  pub slice_get-set_here : (l : List A) (i : ℕ) (a b : A) → slice_get l i ≡ Some b → slice_get (set l i a) i ≡ Some a
  slice_get-set_here [] i a b e = absurd (cc)
  slice_get-set_here (x ∷ xs) zero a b e = refl
  slice_get-set_here (x ∷ xs) (suc i) a b e = slice_get-set_here xs i a b e

  pub slice_get-set_else : (l : List A) (i j : ℕ) (a : A) → j ≢ i → slice_get (set l i a) j ≡ slice_get l j
  slice_get-set_else [] i j a n = refl
  slice_get-set_else (x ∷ xs) zero zero a n = absurd (n refl)
  slice_get-set_else (x ∷ xs) zero (suc j) a n = refl
  slice_get-set_else (x ∷ xs) (suc i) zero a n = refl
  slice_get-set_else (x ∷ xs) (suc i) (suc j) a n = slice_get-set_else xs i j a (λ e. n (ap suc e))

  pub sum_by-set_at : (f : A → ℕ) (l : List A) (i : ℕ) (a b : A) → get_elem? l i ≡ some a → sum_by f (set l i b) + f a ≡ sum_by f l + f b
  sum_by-set_at f [] i a b e = absurd (some-ne-none a (sym e))
  sum_by-set_at f (x ∷ xs) zero a b e =
      let same : f x ≡ f a = ap f (some-injective x a e) in
      omega (arith, sum_by-cons f b xs, sum_by-cons f x xs)
  sum_by-set_at f (x ∷ xs) (suc i) a b e = omega (arith, sum_by-cons f x (set xs i b), sum_by-cons f x xs, sum_by-set_at f xs i a b e)
