-- The rule of a table with one word that only rises, and what each step tells (own).
use Rattle.std.specs.Prelude.{◌≡◌, ℕ, ◌≤◌, [], ◌∷◌, All, max}
use Rattle.atomic_table.specs.Table.{State, Me, Step}

module _ {S : Type 0} where
  -- no seat knows of a height above the word
  abbrev pub OnlyRises : State S ℕ → Type 0
  OnlyRises s = (word : ℕ) × (s.words ≡ word ∷ []) × All (λ known. known ≤ word) s.views

  -- the word had reached what the seat knew, and the seat knows what the word is then
  abbrev pub Raises : Step S → Me S ℕ → ℕ → Me S ℕ → Type 0
  Raises step before found after = (before.0 ≤ found) × (after.0 ≡ max found step.first)

  -- the seat knows what the word is
  abbrev pub Sees : ℕ → Me S ℕ → Type 0
  Sees found after = after.0 ≡ found
