-- How a range is given back: it is one with its free neighbours (vmem(9)).
use Rattle.std.specs.Prelude.{◌≡◌, ℕ, ◌+◌, Bool, false, true, not, ◌&&◌, ◌==◌, List, [], ◌∷◌, ◌++◌, if◌then◌else◌}
use Rattle.vmem_arena.specs.declared.free.Range.{Range}
use Rattle.vmem_arena.specs.Tags.{Tags, range_end}

-- both are free and of one span, and the second begins where the first ends
abbrev pub are_one : Range → Range → Bool
are_one r s = not r.taken && not s.taken && r.span.base == s.span.base && range_end r == s.base

-- r before ranges, one with the first of them where that is a free neighbour
abbrev pub joined : Range → List Range → List Range
joined r [] = r ∷ []
joined r (s ∷ rs) = if are_one r s then record r { size = r.size + s.size } ∷ rs else r ∷ s ∷ rs

-- the ranges with all free neighbours of a span as one
abbrev pub merged : List Range → List Range
merged [] = []
merged (r ∷ rs) = joined r (merged rs)

-- the taken range that begins at this base, of this size, is free and one with its free neighbours, and no other range changes
pub record Gives (old : Tags) (base size : ℕ) (new : Tags) : Type 0 where
  pub before : List Range
  pub range : Range
  pub after : List Range
  pub begins : range.base ≡ base
  pub taken : range.taken ≡ true
  pub long : range.size ≡ size
  pub was : old.ranges ≡ before ++ range ∷ after
  pub is : new ≡ record old { ranges = merged (before ++ record range { taken = false } ∷ after) }
