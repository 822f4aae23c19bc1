-- The first rounds were read.
use Rattle.std.proofs.Common.{◌≡◌, ◌∷◌, take}
use Rattle.std.specs.List.{filter_map}
use Rattle.trace_text.specs.Lines.{lines_of}
use Rattle.uma_replay.specs.Limits.{limit_in}
use Rattle.uma_replay.proofs.limits.limits_had.Given as goal

abbrev pub invariant-loop-number : goal.invariant-loop-number
invariant-loop-number l = l.limits.items ≡ l.first ∷ filter_map (limit_in l.place) (lines_of (take l.number l.rounds))
