use Rattle.std.proofs.Common.{◌≡◌, ◌++◌, drop}
use Rattle.trace_print.specs.CanonicalText.{ops_text}
use Rattle.trace_print.proofs.ops.push_workers.Given as goal

-- the whole is the text so far and the lines of the workers that are left
abbrev pub invariant-loop-worker : goal.invariant-loop-worker
invariant-loop-worker l =
    l.initial.text.items ++ ops_text l.zones 0 l.lists ≡ l.text.items ++ ops_text l.zones l.worker (drop l.worker l.lists)
