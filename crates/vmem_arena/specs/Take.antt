-- How a range is taken: exact best fit (own).
use Rattle.std.specs.Prelude.{◌≡◌, ℕ, ◌+◌, ◌-◌, ◌≤◌, false, true, List, [], ◌∷◌, ◌++◌, All, if◌then◌else◌, ◌==◌}
use Rattle.vmem_arena.specs.declared.free.Range.{Range}
use Rattle.vmem_arena.specs.Tags.{Tags, free_range}

-- a range that is free and holds n
pub record Holds (n : ℕ) (r : Range) : Type 0 where
  pub free : r.taken ≡ false
  pub holds : n ≤ r.size

-- if s holds n too, it is larger than r, or as large and not lower
abbrev pub IsNoBetter : ℕ → Range → Range → Type 0
IsNoBetter n r s = Holds n s → (r.size ≤ s.size) × (s.size ≡ r.size → r.base ≤ s.base)

-- the smallest free range that holds n, the lowest of equal ones
pub record IsBestFit (ranges : List Range) (n : ℕ) (r : Range) : Type 0 where
  pub holds : Holds n r
  pub others : All (IsNoBetter n r) ranges

-- the front of a range, taken, and what of it stays free behind that: nothing, where the front is all of it
abbrev pub front_of : Range → ℕ → Range
front_of r n = record r { size = n; taken = true }

abbrev pub rest_of : Range → ℕ → List Range
rest_of r n = if r.size == n then [] else free_range (r.base + n) (r.size - n) r.span ∷ []

-- the front of the best fit is taken, n long and from this base on, and no other range changes
pub record TakesRange (old : Tags) (n base : ℕ) (new : Tags) : Type 0 where
  pub before : List Range
  pub range : Range
  pub after : List Range
  pub begins : range.base ≡ base
  pub best : IsBestFit old.ranges n range
  pub was : old.ranges ≡ before ++ range ∷ after
  pub is : new ≡ record old { ranges = before ++ (front_of range n ∷ (rest_of range n ++ after)) }
