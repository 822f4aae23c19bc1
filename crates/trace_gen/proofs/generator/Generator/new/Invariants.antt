use Rattle.std.proofs.Common.{◌≡◌, replicate, false}
use Rattle.trace_gen.proofs.generator.Generator.new.Given as goal

abbrev pub invariant-loop-worker : goal.invariant-loop-worker
invariant-loop-worker l = l.slots.items ≡ replicate l.worker (replicate 256 false)
