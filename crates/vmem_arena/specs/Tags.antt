-- The tags of an arena, in the manner of vmem(9): ranges of numbers in order of base, each free or taken, into which the
-- added spans are cut.
use Rattle.std.specs.Prelude.{ℕ, ◌+◌, false, max, List, [], ◌∷◌, if◌then◌else◌}
use Rattle.vmem_arena.specs.declared.free.Range.{Range}
use Rattle.vmem_arena.specs.declared.free.Span.{Span}

-- what an arena has: its quantum, and its ranges in order of base
pub record Tags : Type 0 where
  pub quantum : ℕ
  pub ranges : List Range

-- where a range ends, and where a span does: at the first number behind it
abbrev pub range_end : Range → ℕ
range_end r = r.base + r.size

abbrev pub span_end : Span → ℕ
span_end s = s.base + s.size

-- the free range of this base and size
abbrev pub free_range : ℕ → ℕ → Span → Range
free_range base size span = record { base = base; size = size; taken = false; span = span }

-- the size of what is free: 0 of a taken range
abbrev pub free_size : Range → ℕ
free_size r = if r.taken then 0 else r.size

-- the sizes of the free ranges together
abbrev pub free_total : List Range → ℕ
free_total [] = 0
free_total (r ∷ rs) = free_size r + free_total rs

-- the size of the largest free range, or 0
abbrev pub greatest_free : List Range → ℕ
greatest_free [] = 0
greatest_free (r ∷ rs) = max (free_size r) (greatest_free rs)
