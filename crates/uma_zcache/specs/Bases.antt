-- Own: lists of the bases that are outside, in which order does not count.
use Rattle.std.specs.Prelude.{◌≡◌, ◌==◌, ◌≤◌, ◌<◌, ℕ, List, ◌∷◌, count_by, length}

-- how often a base stands in a list
abbrev pub times : ℕ → List ℕ → ℕ
times base bases = count_by (λ b. b == base) bases

-- the base is in the list
abbrev pub Has : List ℕ → ℕ → Type 0
Has bases base = 1 ≤ times base bases

-- the list gains this base, which it didn't have, and nothing else changes
pub record Gains (old : List ℕ) (base : ℕ) (new : List ℕ) : Type 0 where
  pub was_not : times base old ≡ 0
  pub each : (b : ℕ) → times b new ≡ times b (base ∷ old)

-- the list loses this base, once, and nothing else changes
pub record Loses (old : List ℕ) (base : ℕ) (new : List ℕ) : Type 0 where
  pub was : Has old base
  pub each : (b : ℕ) → times b (base ∷ new) ≡ times b old

-- the list has each number below this one once and no other, in a room for just so many
pub record ListsEach (numbers : ℕ) (home : List ℕ) (places : ℕ) : Type 0 where
  pub listed : (number : ℕ) → number < numbers → times number home ≡ 1
  pub others : (number : ℕ) → numbers ≤ number → times number home ≡ 0
  pub all : length home ≡ numbers
  pub room : places ≡ numbers
