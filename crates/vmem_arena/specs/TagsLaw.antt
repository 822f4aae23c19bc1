-- The law of an arena's tags (that they tile the spans, and that no two free ones of a span touch, as vmem(9) has it; the
-- bounds are own).
use Rattle.std.specs.Prelude.{◌≡◌, ℕ, ◌%◌, ◌^◌, ◌<◌, ◌≤◌, ◌⊎◌, ◌||◌, true, List, [], ◌∷◌, All, IsTrue, ⊤}
use Rattle.std.specs.Int.{is_power_of_two}
use Rattle.vmem_arena.specs.declared.free.Range.{Range}
use Rattle.vmem_arena.specs.Tags.{Tags, range_end, span_end}

-- a power of two from 1 to 2^20
pub record IsQuantum (q : ℕ) : Type 0 where
  pub power : IsTrue (is_power_of_two q)
  pub least : 1 ≤ q
  pub most : q ≤ 2 ^ 20

-- of a range and its span: none is empty, base and size are multiples of the quantum, and the span ends at 2^63 at the latest
pub record IsMeasured (q : ℕ) (r : Range) : Type 0 where
  pub some : 0 < r.size
  pub base : r.base % q ≡ 0
  pub size : r.size % q ≡ 0
  pub low : r.span.base ≤ r.base
  pub high : range_end r ≤ span_end r.span
  pub within : span_end r.span ≤ 2 ^ 63

-- s goes on where r ends, in the same span, and one of the two is taken
pub record GoesOn (r s : Range) : Type 0 where
  pub span : s.span ≡ r.span
  pub base : s.base ≡ range_end r
  pub apart : (r.taken || s.taken) ≡ true

-- r is the last range of its span, and s is the first of a span behind it
pub record BeginsAnew (r s : Range) : Type 0 where
  pub last : range_end r ≡ span_end r.span
  pub first : s.base ≡ s.span.base
  pub behind : range_end r ≤ s.base

-- r and the ranges behind it, up to the end of its span, and so on to the end of the last span
abbrev pub TileOn : Range → List Range → Type 0
TileOn r [] = range_end r ≡ span_end r.span
TileOn r (s ∷ rs) = (GoesOn r s ⊎ BeginsAnew r s) × TileOn s rs

-- The ranges tile their spans: the first begins its span, each next one goes on in it or begins the next span, and each
-- span is filled to its end. No two free ones of a span touch.
abbrev pub Tile : List Range → Type 0
Tile [] = ⊤
Tile (r ∷ rs) = (r.base ≡ r.span.base) × TileOn r rs

pub record TagsLaw (t : Tags) : Type 0 where
  pub quantum : IsQuantum t.quantum
  pub measured : All (IsMeasured t.quantum) t.ranges
  pub tile : Tile t.ranges
