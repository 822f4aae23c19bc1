use Rattle.example_server.proofs.Rounds.{works_more, works_none}
use Rattle.example_server.proofs.worker.Worker.work.Goals as goal

pub loop-request-init : goal.loop-request-init
loop-request-init g c = works_none c.args.self.now

pub loop-request-preserved : goal.loop-request-preserved
loop-request-preserved g c = works_more c.args.requests.now c.loop-request.request-index _ c.args.self.now c.loop-request.self c.serve.new.self c.loop-request-test.true c.loop-request.invariant c.serve.ensures
