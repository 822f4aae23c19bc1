-- How many operations of a worker are among these lines (own).
use Rattle.std.specs.Prelude.{ℕ, List, Bool, false, ◌==◌, count_by}
use Rattle.trace_text.specs.Lines.{Line, Does, Moves}

-- the line is an operation of worker `n`
abbrev pub is_by : ℕ → Line → Bool
is_by n (Does v op) = v == n
is_by n (Moves between) = false

unfoldable pub done_by : ℕ → List Line → ℕ
done_by n lines = count_by (is_by n) lines
