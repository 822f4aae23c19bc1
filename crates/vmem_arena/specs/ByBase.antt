-- Ranges in order of base: where one stands, and how one comes, changes or goes.
use Rattle.std.specs.Prelude.{◌≡◌, ◌≢◌, ℕ, ◌<◌, ◌≤◌, ◌==◌, nat_lt, List, [], ◌∷◌, ◌++◌, All, cond}
use Rattle.vmem_arena.specs.declared.free.Range.{Range}

-- r begins at this base, and none of the others before it does
pub record IsAt (ranges : List Range) (base : ℕ) (r : Range) : Type 0 where
  pub before : List Range
  pub after : List Range
  pub is : ranges ≡ before ++ r ∷ after
  pub begins : r.base ≡ base

abbrev pub NoneAt : List Range → ℕ → Type 0
NoneAt ranges base = All (λ r. r.base ≢ base) ranges

-- r is the last that begins below this base
pub record IsLastBelow (ranges : List Range) (base : ℕ) (r : Range) : Type 0 where
  pub before : List Range
  pub after : List Range
  pub is : ranges ≡ before ++ r ∷ after
  pub below : r.base < base
  pub later : All (λ s. base ≤ s.base) after

abbrev pub NoneBelow : List Range → ℕ → Type 0
NoneBelow ranges base = All (λ r. base ≤ r.base) ranges

-- r is the first that begins at this base or above
pub record IsFirstFrom (ranges : List Range) (base : ℕ) (r : Range) : Type 0 where
  pub before : List Range
  pub after : List Range
  pub is : ranges ≡ before ++ r ∷ after
  pub from : base ≤ r.base
  pub earlier : All (λ s. s.base < base) before

abbrev pub NoneFrom : List Range → ℕ → Type 0
NoneFrom ranges base = All (λ r. r.base < base) ranges

-- the ranges with this one before the first that begins above it
abbrev pub put_in : Range → List Range → List Range
put_in r [] = r ∷ []
put_in r (s ∷ rs) = cond (nat_lt r.base s.base) (r ∷ s ∷ rs) (s ∷ put_in r rs)

-- the ranges with this one in place of the first that begins at its base
abbrev pub written : Range → List Range → List Range
written r [] = []
written r (s ∷ rs) = cond (r.base == s.base) (r ∷ rs) (s ∷ written r rs)

-- the ranges without the first that begins at this base
abbrev pub without : ℕ → List Range → List Range
without base [] = []
without base (s ∷ rs) = cond (base == s.base) rs (s ∷ without base rs)
