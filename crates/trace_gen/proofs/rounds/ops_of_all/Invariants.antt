use Rattle.std.proofs.Common.{◌≡◌, map}
use Rattle.trace_text.specs.Grammar.{ops_in}
use Rattle.trace_gen.specs.Rounds.{did_entry}
use Rattle.trace_gen.proofs.rounds.ops_of_all.Given as goal

-- what the workers so far do
abbrev pub invariant-loop-worker : goal.invariant-loop-worker
invariant-loop-worker l = l.ops.items ≡ ops_in l.worker (map did_entry l.part)
