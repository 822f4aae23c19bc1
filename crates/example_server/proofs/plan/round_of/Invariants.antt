use Rattle.std.proofs.Common.{◌≡◌, length}
use Rattle.example_server.proofs.plan.round_of.Given as goal

abbrev pub invariant-loop-worker : goal.invariant-loop-worker
invariant-loop-worker l = length l.lists.items ≡ l.worker
