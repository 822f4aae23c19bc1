use Rattle.std.proofs.Common.{take}
use Rattle.example_server.specs.Serving.{Works}
use Rattle.example_server.proofs.worker.Worker.work.Given as goal

abbrev pub invariant-loop-request : goal.invariant-loop-request
invariant-loop-request g l = Works (take l.request-index l.requests) l.initial.self l.self
