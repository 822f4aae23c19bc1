-- The bases of an arena's taken ranges.
use Rattle.std.specs.Prelude.{◌≡◌, ◌≢◌, ℕ, List, [], ◌∷◌, ◌++◌, All, if◌then◌else◌}
use Rattle.vmem_arena.specs.declared.free.Range.{Range}

-- in order
abbrev pub taken_bases : List Range → List ℕ
taken_bases [] = []
taken_bases (r ∷ rs) = if r.taken then r.base ∷ taken_bases rs else taken_bases rs

-- with is without and this base, which is in its place and which without doesn't have
pub record HasOneMore (without : List ℕ) (base : ℕ) (with_it : List ℕ) : Type 0 where
  pub lower : List ℕ
  pub higher : List ℕ
  pub fewer : without ≡ lower ++ higher
  pub more : with_it ≡ lower ++ base ∷ higher
  pub new : All (λ other. other ≢ base) without
