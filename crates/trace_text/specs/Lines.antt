-- The lines of a trace below its header, in order: what each worker does, and what is done between two rounds.
use Rattle.std.specs.Prelude.{ℕ, ◌+◌, List, [], ◌∷◌, ◌++◌, map}
use Rattle.trace_text.specs.declared.trace.Op.{Op}
use Rattle.trace_text.specs.declared.trace.Between.{Between}
use Rattle.trace_text.specs.declared.trace.Round.{Round}

-- an operation of a worker, or a line between two rounds
pub data Line : Type 0 where
  Does : ℕ → Op → Line
  Moves : Between → Line

-- the lines of the workers from number `w` on
abbrev pub worker_lines : ℕ → List (List Op) → List Line
worker_lines w [] = []
worker_lines w (ops ∷ lists) = map (Does w) ops ++ worker_lines (w + 1) lists

-- the lines of the rounds in the order of the text
abbrev pub lines_of : List Round → List Line
lines_of [] = []
lines_of (r ∷ rounds) = (worker_lines 0 r.ops ++ map Moves r.between) ++ lines_of rounds
