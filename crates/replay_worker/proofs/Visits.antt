-- The calls of a gate may go to another thread.
use denote.Param.Send.{IsSend}
use Rattle.std.proofs.Common.{rules}
use Rattle.listed.specs.contracts.list.Log as Log
use Rattle.replay_worker.proofs.gate.Call.TheSendSync as call
use Rattle.replay_worker.specs.contracts.gate.Call as Call

pub calls_send : IsSend (Log.the_row Call.the_row)
calls_send = search (rules, call.the_send)
