use Rattle.std.proofs.Common.{◌≡◌, ◌++◌, drop}
use Rattle.trace_print.specs.CanonicalText.{rounds_text}
use Rattle.trace_print.proofs.ops.push_rounds.Given as goal

-- the whole is the text so far and the lines of the rounds that are left
abbrev pub invariant-loop-place : goal.invariant-loop-place
invariant-loop-place l =
    l.initial.text.items ++ rounds_text l.zones l.rounds ≡ l.text.items ++ rounds_text l.zones (drop l.place l.rounds)
