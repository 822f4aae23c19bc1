-- The commands of the program, as the words after its name spell them (own).
use Rattle.std.specs.Prelude.{List, [], ◌∷◌, ℕ, ◌≤◌, Option, Some, None, Result, Ok, Err, codes, if◌then◌else◌}
use Rattle.std.specs.Str.{bytes_eq}
use Rattle.trace_lines.specs.Fields.{◌>>=◌, number_in, number_within}
use Rattle.trace_lines.specs.declared.refused.TraceKind.{TraceKind}
use Rattle.command_line.specs.declared.command.Command.{Command}
use Rattle.command_line.specs.declared.command.Command.TheVariants as commands

-- a command of one word
abbrev pub command_named : List ℕ → Option Command
command_named word =
    if bytes_eq word (codes "replay") then Some commands.Replay else
    if bytes_eq word (codes "steps") then Some commands.Steps else
    None

-- SEED, WORKERS and OPS, the first of which that is no number in its range is wrong
abbrev pub numbers : List ℕ → List ℕ → List ℕ → Result (ℕ × ℕ × ℕ) TraceKind
numbers seed workers ops = do
  seed ← number_in seed
  workers ← number_within 1 16 workers
  ops ← number_within 1 50000 ops
  Ok (seed, workers, ops)

-- the command of a word with these numbers
abbrev pub command_made : List ℕ → ℕ × ℕ × ℕ → Option Command
command_made word (seed, workers, ops) =
    if bytes_eq word (codes "gen") then Some (commands.Gen seed workers ops) else
    if bytes_eq word (codes "bulk") then Some (commands.Bulk seed workers ops) else
    None

abbrev pub command_with : List ℕ → Result (ℕ × ℕ × ℕ) TraceKind → Option Command
command_with word (Ok made) = command_made word made
command_with word (Err why) = None

-- a command of a word and three numbers
abbrev pub command_numbered : List ℕ → List ℕ → List ℕ → List ℕ → Option Command
command_numbered word seed workers ops = command_with word (numbers seed workers ops)

-- the command that the words are, if they are one
abbrev pub command_of : List (List ℕ) → Option Command
command_of (word ∷ []) = command_named word
command_of (word ∷ seed ∷ workers ∷ ops ∷ []) = command_numbered word seed workers ops
command_of other = None

-- WORKERS and OPS are in their ranges
abbrev pub AreNumbers : ℕ × ℕ × ℕ → Type 0
AreNumbers (seed, workers, ops) = ((1 ≤ workers) × (workers ≤ 16)) × ((1 ≤ ops) × (ops ≤ 50000))

-- the numbers of a command are in their ranges
abbrev pub HasRanges : Command → Type 0
HasRanges (commands.Gen seed workers ops) = AreNumbers (seed, workers, ops)
HasRanges (commands.Bulk seed workers ops) = AreNumbers (seed, workers, ops)
HasRanges other = Unit {0}
