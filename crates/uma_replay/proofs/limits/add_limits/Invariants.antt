-- The first lines were read.
use Rattle.std.proofs.Common.{◌≡◌, ◌++◌, map, take}
use Rattle.std.specs.List.{filter_map}
use Rattle.trace_text.specs.Lines.{Moves}
use Rattle.uma_replay.specs.Limits.{limit_in}
use Rattle.uma_replay.proofs.limits.add_limits.Given as goal

abbrev pub invariant-loop-number : goal.invariant-loop-number
invariant-loop-number l = l.limits.items ≡ l.initial.limits.items ++ filter_map (limit_in l.place) (map Moves (take l.number l.between))
