use denote.Param.Send.{sendable}
use Rattle.replay_worker.proofs.Visits.{calls_send}
use Rattle.umarun.proofs.program.Goals as goal

-- each worker's thread has a visit of its own to the gate
pub run-requires-send-G-Visit : goal.run-requires-send-G-Visit
run-requires-send-G-Visit g c κs within = search (calls_send, sendable)
