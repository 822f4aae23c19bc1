-- The steps of a take and of a give: what one of them does to the ranges, in order of base and in order of size.
use Rattle.std.specs.Prelude.{◌≡◌, ℕ, ◌+◌, ◌%◌, ◌^◌, ◌<◌, ◌≤◌, Bool, false, List, [], ◌∷◌, ◌++◌, All}
use Rattle.vmem_arena.specs.declared.free.Range.{Range}
use Rattle.vmem_arena.specs.declared.free.Span.{Span}
use Rattle.vmem_arena.specs.declared.free.Fit.{Fit}
use Rattle.vmem_arena.specs.Fits.{passing}
use Rattle.vmem_arena.specs.Kept.{free_passing}
use Rattle.vmem_arena.specs.Tags.{Tags, range_end, span_end}
use Rattle.vmem_arena.specs.Take.{front_of, rest_of}
use Rattle.vmem_arena.specs.Give.{joined}

-- the fits are those of the free ranges
abbrev pub AreFits : List Fit → List Range → Type 0
AreFits fits ranges = (test : Fit → Bool) → passing test fits ≡ free_passing test ranges

-- each begins at this number or behind
abbrev pub BeginFrom : ℕ → List Range → Type 0
BeginFrom e [] = Unit {0}
BeginFrom e (r ∷ rs) = (e ≤ r.base) × BeginFrom e rs

-- each begins below this number
abbrev pub BeginBelow : ℕ → List Range → Type 0
BeginBelow e [] = Unit {0}
BeginBelow e (r ∷ rs) = (r.base < e) × BeginBelow e rs

-- none is empty, and each begins where the one before it ends or behind
abbrev pub Spaced : List Range → Type 0
Spaced [] = Unit {0}
Spaced (r ∷ rs) = (0 < r.size) × BeginFrom (range_end r) rs × Spaced rs

-- each ends at 2^63 at the latest
abbrev pub EndLow : List Range → Type 0
EndLow ranges = All (λ r. range_end r ≤ 2 ^ 63) ranges

-- the range is one of these
pub record StandsIn (ranges : List Range) (r : Range) : Type 0 where
  pub before : List Range
  pub after : List Range
  pub is : ranges ≡ before ++ r ∷ after

-- so much can be taken of the range
pub record IsPartOf (q n : ℕ) (r : Range) : Type 0 where
  pub free : r.taken ≡ false
  pub some : 0 < n
  pub multiple : n % q ≡ 0
  pub within : n ≤ r.size

-- the front of this range is taken
pub record TakesFront (old : Tags) (r : Range) (n : ℕ) (new : Tags) : Type 0 where
  pub before : List Range
  pub after : List Range
  pub was : old.ranges ≡ before ++ r ∷ after
  pub is : new ≡ record old { ranges = before ++ (front_of r n ∷ (rest_of r n ++ after)) }

-- a taken range as free, and one with the free neighbour behind it, which is neither among the ranges nor among the fits
-- any more; the range itself stands as it did
pub record NextJoined (before : List Range) (r : Range) (after : List Range) (ranges : List Range) (fits : List Fit) (result : Range) : Type 0 where
  pub gone : List Range
  pub rest : List Range
  pub parts : after ≡ gone ++ rest
  pub is : joined (record r { taken = false }) after ≡ result ∷ rest
  pub base : result.base ≡ r.base
  pub free : result.taken ≡ false
  pub left : ranges ≡ before ++ r ∷ rest
  pub fit : AreFits fits ranges

-- the last of these joined with what comes behind
abbrev pub joined_behind : List Range → List Range → List Range
joined_behind [] ys = ys
joined_behind (l ∷ []) ys = joined l ys
joined_behind (l ∷ m ∷ ls) ys = l ∷ joined_behind (m ∷ ls) ys

-- a freed range one with the free neighbour before it; at its base stands a range that isn't among the fits
pub record LastJoined (before : List Range) (freed : Range) (rest : List Range) (ranges : List Range) (fits : List Fit) (result : Range) : Type 0 where
  pub front : List Range
  pub under : Range
  pub is : joined_behind before (freed ∷ rest) ≡ front ++ result ∷ rest
  pub left : ranges ≡ front ++ under ∷ rest
  pub at : under.base ≡ result.base
  pub free : result.taken ≡ false
  pub below : BeginBelow result.base front
  pub fit : (test : Fit → Bool) → passing test fits ≡ free_passing test front + free_passing test rest

-- no range that begins below the span is of one that ends within it or behind
abbrev pub NoneReaches : Span → List Range → Type 0
NoneReaches span ranges = All (λ r. r.base < span.base → span_end r.span ≤ span.base) ranges
