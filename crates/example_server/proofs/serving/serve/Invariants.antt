use Rattle.std.proofs.Common.{◌≡◌, length, take}
use Rattle.example_server.specs.Serving.{AllServed}
use Rattle.example_server.proofs.serving.serve.Given as goal

abbrev pub invariant-loop-round : goal.invariant-loop-round
invariant-loop-round g l = record {
  count : length l.workers ≡ length l.initial.workers;
  served : AllServed (take l.round-index l.rounds) l.initial.workers l.workers;
}
