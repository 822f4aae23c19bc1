-- A worker's own list of operations, and the lines so far with it on top (own). A list of lines has the last one first.
use Rattle.std.specs.Prelude.{ℕ, List, [], ◌∷◌, slice_get, take}
use Rattle.std.specs.Option.{option_map_or}
use Rattle.trace_text.specs.declared.trace.Op.{Op}
use Rattle.trace_text.specs.declared.trace.Round.{Round}
use Rattle.trace_text.specs.Lines.{Line, Does, lines_of}

-- these lines on top of earlier ones
unfoldable pub stacked : List Line → List Line → List Line
stacked [] before = before
stacked (line ∷ lines) before = stacked lines (line ∷ before)

-- what worker `n` does on top of earlier lines
unfoldable pub worked : ℕ → List Op → List Line → List Line
worked n [] before = before
worked n (op ∷ ops) before = worked n ops (Does n op ∷ before)

-- the lines of the rounds before round `k`
abbrev pub lines_before : List Round → ℕ → List Line
lines_before rounds k = stacked (lines_of (take k rounds)) []

-- what worker `n` does in round `k`
abbrev pub own_ops : List Round → ℕ → ℕ → List Op
own_ops rounds k n = option_map_or (λ (r : Round). option_map_or (λ ops. ops) (slice_get r.ops n) []) (slice_get rounds k) []
