use Rattle.std.proofs.Common.{All}
use Rattle.example_server.specs.Serving.{AsksEach}
use Rattle.example_server.proofs.plan.plan.Given as goal

abbrev pub invariant-loop-number : goal.invariant-loop-number
invariant-loop-number l = All (AsksEach 4) l.rounds.items
