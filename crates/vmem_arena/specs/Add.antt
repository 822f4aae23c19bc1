-- How a span is added, as one free range.
use Rattle.std.specs.Prelude.{◌≡◌, ℕ, ◌%◌, ◌^◌, ◌<◌, ◌≤◌, List, ◌∷◌, ◌++◌, All, Contains}
use Rattle.vmem_arena.specs.declared.free.Range.{Range}
use Rattle.vmem_arena.specs.declared.free.Span.{Span}
use Rattle.vmem_arena.specs.Tags.{Tags, range_end, span_end, free_range}

-- a span that an arena takes: it isn't empty, its base and size are multiples of the quantum, and it ends at 2^63 at the latest
pub record IsSpanShape (q : ℕ) (span : Span) : Type 0 where
  pub some : 0 < span.size
  pub base : span.base % q ≡ 0
  pub size : span.size % q ≡ 0
  pub within : span_end span ≤ 2 ^ 63

-- two spans have a number in common
pub record Meet (a b : Span) : Type 0 where
  pub begins : a.base < span_end b
  pub ends : b.base < span_end a

-- no span of these ranges meets this one
abbrev pub MeetsNone : Span → List Range → Type 0
MeetsNone span ranges = All (λ r. Meet r.span span → ⊥) ranges

-- met is a span of these ranges that this one meets, and the first of those
pub record IsFirstMet (ranges : List Range) (span met : Span) : Type 0 where
  pub range : Range
  pub among : Contains ranges range
  pub is : range.span ≡ met
  pub meets : Meet met span
  pub first : All (λ r. Meet r.span span → met.base ≤ r.span.base) ranges

-- the span is there as one free range between those that lie below it and those above, and no other range changes
pub record Adds (old : Tags) (span : Span) (new : Tags) : Type 0 where
  pub before : List Range
  pub after : List Range
  pub below : All (λ r. range_end r ≤ span.base) before
  pub above : All (λ r. span_end span ≤ r.base) after
  pub was : old.ranges ≡ before ++ after
  pub is : new ≡ record old { ranges = before ++ free_range span.base span.size span ∷ after }
