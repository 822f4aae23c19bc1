-- Lists that are pushed, entry after entry.
use Rattle.std.proofs.Common.{◌≡◌, ℕ, zero, suc, ◌+◌, inl, inr, ◌⊎◌, List, [], ◌∷◌, ◌++◌, length, Some, refl, sym, ap, ◌∙◌, subst, arith, length-append}
use Rattle.std.proofs.lemmas.Option.{none-some, same_Some}
use Rattle.std.specs.Prelude.{slice_get}

-- the first so many entries of a list, each as its place says
pub record ArePushed {A : Type 0} (P : ℕ → A → Type 0) (count : ℕ) (xs : List A) : Type 0 where
  pub size : length xs ≡ count
  pub each : (z : ℕ) (x : A) → slice_get xs z ≡ Some x → P z x

pub at_end : {A : Type 0} (xs : List A) (y : A) (z : ℕ) (x : A) → slice_get (xs ++ y ∷ []) z ≡ Some x → (slice_get xs z ≡ Some x) ⊎ ((z ≡ length xs) × (x ≡ y))
at_end [] y zero x at = inr (refl, sym (same_Some y x at))
at_end [] y (suc z) x at = absurd (none-some x at)
at_end (first ∷ xs) y zero x at = inl at
at_end (first ∷ xs) y (suc z) x at = elim (at_end xs y z x at) [
  | inl before ↦ inl before
  | inr last ↦ inr (let e : suc z ≡ length (first ∷ xs) = let is = last.0 in omega arith in e, last.1)
]

pub ArePushed-more : {A : Type 0} (P : ℕ → A → Type 0) (count : ℕ) (xs : List A) (y : A) → ArePushed P count xs → P count y → ArePushed P (count + 1) (xs ++ y ∷ [])
ArePushed-more P count xs y pushed holds = record {
  size = length-append xs (y ∷ []) ∙ ap (λ n. n + 1) pushed.size;
  each = λ z x at. elim (at_end xs y z x at) [
    | inl before ↦ pushed.each z x before
    | inr last ↦ let Q : ℕ → Type 0 = λ n. P n x in subst Q (sym (last.0 ∙ pushed.size)) (let R : _ → Type 0 = λ v. P count v in subst R (sym last.1) holds)
  ];
}
