use Rattle.std.proofs.Common.{arith}
use Rattle.replay_worker.specs.Turn.{most_asks}
use Rattle.replay_worker.proofs.Asked.{held-last}
use Rattle.replay_worker.proofs.worker_run.WorkerRun.await_gate.Goals as goal

pub returns-in-None-clause-asked : goal.returns-in-None-clause-asked
returns-in-None-clause-asked g c =
    held-last c.args.worker c.args.op most_asks (g.G.Gate.heard c.args.visit.now) (g.G.Gate.heard c.ask.new.visit) (omega arith) c.in-None.ensures.heard
