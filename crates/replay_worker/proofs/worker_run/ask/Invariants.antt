-- A gate that holds nobody was asked once, and let go. Each answer so far was Hold.
use Rattle.std.proofs.Common.{◌≡◌}
use Rattle.replay_worker.specs.Asking.{held_for}
use Rattle.replay_worker.proofs.worker_run.ask.Given as goal

abbrev pub invariant-loop-asked : goal.invariant-loop-asked
invariant-loop-asked g l = record {
  free : g.G.Gate.is_free l.gate → l.asked ≡ 0;
  of_gate : g.G.Gate.is_of l.gate l.visit;
  heard : g.G.Gate.heard l.visit ≡ held_for l.worker l.op (g.G.Gate.heard l.fn.visit) l.asked;
}
