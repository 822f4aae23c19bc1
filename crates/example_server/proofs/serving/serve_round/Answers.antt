use denote.Exit.{no}
use denote.Param.{param}
use denote.Param.Send.{IsSync, sendable, param_sync, arg_sync}
use Rattle.example_server.proofs.Crossed.{worker_send, shared_sync}
use Rattle.example_server.proofs.serving.serve_round.Goals as goal

pub for_each_mut-requires-send-T : goal.for_each_mut-requires-send-T
for_each_mut-requires-send-T g c κs within = search (worker_send, sendable) depth 20

pub for_each_mut-requires-sync-F : goal.for_each_mut-requires-sync-F
for_each_mut-requires-sync-F g c κs within =
    let r : IsSync (param 0 g.row.R) = search (c.type_bounds.sync-R, sendable) in
    param_sync _ _ (arg_sync _ no _ (shared_sync (param 0 g.row.R) _ _ _ _ _ _ _ r))
