use Rattle.std.proofs.Common.{◌≡◌, ◌++◌, take}
use Rattle.std.specs.List.{flat_map}
use Rattle.trace_print.specs.CanonicalText.{between_line}
use Rattle.trace_print.proofs.ops.push_betweens.Given as goal

-- the lines so far were appended
abbrev pub invariant-loop-between : goal.invariant-loop-between
invariant-loop-between l =
    l.text.items ≡ l.initial.text.items ++ flat_map (between_line l.zones) (take l.between-index l.betweens)
