use Rattle.std.proofs.Common.{◌≡◌, ◌++◌, take}
use Rattle.std.specs.List.{flat_map}
use Rattle.trace_print.specs.CanonicalText.{op_line}
use Rattle.trace_print.proofs.ops.push_ops.Given as goal

-- the lines so far were appended
abbrev pub invariant-loop-op : goal.invariant-loop-op
invariant-loop-op l = l.text.items ≡ l.initial.text.items ++ flat_map (op_line l.zones l.worker) (take l.op-index l.ops)
