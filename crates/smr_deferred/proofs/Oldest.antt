-- The front of a list's queue.
use Rattle.std.proofs.Common.{◌≡◌, suc, List, [], ◌∷◌, ◌++◌, drop, All, ap, ◌∙◌, arith}
use Rattle.smr_deferred.specs.declared.retire_list.Retired.{Retired}

module _ {T : Type 0} where
  -- what holds of each holds of each behind the front
  pub all_behind : (P : Retired T → Type 0) (xs : List (Retired T)) → All P xs → All P (drop 1 xs)
  all_behind P [] all k d below = all k d below
  all_behind P (x ∷ xs) all k d below = all (suc k) d (omega arith)

  -- a value put behind a queue whose room was taken first
  pub put_behind : (xs room ys : List (Retired T)) (x : Retired T) → room ≡ xs → ys ≡ room ++ x ∷ [] → ys ≡ xs ++ x ∷ []
  put_behind xs room ys x same put = put ∙ ap (λ (zs : List (Retired T)). zs ++ x ∷ []) same
