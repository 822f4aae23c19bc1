-- Sums over what a test picks (own). The test sees each line with its place.
use Rattle.std.specs.Prelude.{ℕ, ◌+◌, Bool, List, [], ◌∷◌, cond}

-- of two lists side by side: the terms of the one, where the test picks the other's; `z` is the place of the first
unfoldable pub picked : {A B : Type 0} → (ℕ → A → Bool) → (B → ℕ) → ℕ → List A → List B → ℕ
picked test term z [] bs = 0
picked test term z (a ∷ ls) [] = 0
picked test term z (a ∷ ls) (b ∷ bs) = cond (test z a) (term b) 0 + picked test term (z + 1) ls bs
