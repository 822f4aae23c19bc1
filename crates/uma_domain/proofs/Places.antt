-- Lists that are taken apart at a place.
use Rattle.std.proofs.Common.{◌≡◌, ◌<◌, ◌≤◌, ◌+◌, ℕ, suc, List, ◌∷◌, ◌++◌, length, take, drop, set, get_or, sym, ap, ◌∙◌, add-one, arith}
use Rattle.std.specs.List.{remove}
use Rattle.std.proofs.lemmas.List.{take-append-drop, drop_more, set_split, take-set, drop-set-lt, drop_at, length-take-le}

module _ {X : Type 0} where
  pub split_at : (xs : List X) (i : ℕ) (x : X) → i < length xs → x ≡ get_or xs i x → xs ≡ take i xs ++ x ∷ drop (i + 1) xs
  split_at xs i x within there =
      sym (take-append-drop i xs) ∙ ap (λ (rest : List X). take i xs ++ rest) (drop_more xs i x within ∙ ap (λ (y : X). y ∷ drop (i + 1) xs) (sym there))

  pub set_at : (xs : List X) (i : ℕ) (y : X) → i < length xs → set xs i y ≡ take i xs ++ y ∷ drop (i + 1) xs
  set_at xs i y within = set_split xs i y within ∙ ap (λ (n : ℕ). take i xs ++ y ∷ drop n xs) (sym (add-one i))

  pub remove_after_set : (xs : List X) (i : ℕ) (y : X) → remove (set xs i y) i ≡ take i xs ++ drop (i + 1) xs
  remove_after_set xs i y =
      let past : i < suc i = omega arith in
      ap (λ (front : List X). front ++ drop (suc i) (set xs i y)) (take-set xs i y)
      ∙ ap (λ (back : List X). take i xs ++ back) (drop-set-lt (suc i) xs i y past)
      ∙ ap (λ (n : ℕ). take i xs ++ drop n xs) (sym (add-one i))

  -- what lies from a place on, where a list is split there
  pub from_place : (xs : List X) (i : ℕ) (back : List X) → i ≤ length xs → xs ≡ take i xs ++ back → drop i xs ≡ back
  from_place xs i back within split = ap (drop i) split ∙ drop_at (take i xs) back i (length-take-le i xs within)

  pub same_head : (x y : X) (xs ys : List X) → x ∷ xs ≡ y ∷ ys → (x ≡ y) × (xs ≡ ys)
  same_head x y xs ys same = (cc, cc)
