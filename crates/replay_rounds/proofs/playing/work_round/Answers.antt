use Rattle.std.proofs.Common.{subst, sym}
use denote.Exit.{no}
use denote.Param.{param}
use denote.Param.Send.{IsSend, IsSync, sendable, param_send, arg_send, param_sync, arg_sync}
use Rattle.replay_worker.specs.contracts.worker_run.WorkerRun as WorkerRun
use Rattle.replay_worker.specs.Turn.{IsReady}
use Rattle.replay_rounds.proofs.Crossed.{captured_sync, run_send}
use Rattle.replay_rounds.proofs.playing.work_round.Goals as goal

pub for_each_mut-requires-send-T : goal.for_each_mut-requires-send-T
for_each_mut-requires-send-T g c κs within =
    let N = param 0 g.row.N in
    let H = param 4 g.row.N-H in
    let C = param 5 g.row.N-Cache in
    let S = param 6 g.row.N-Seat in
    let P = param 7 g.row.N-H-Part in
    let seat : IsSend S = search (c.type_bounds.send-N-Seat, sendable) in
    let one : IsSend (WorkerRun.the_row N H C S P g.N.H.Host) = run_send N H C S P g.N.H.Host c.type_bounds.send-N-H c.type_bounds.sync-N-H seat in
    param_send _ _ (arg_send _ no _ one)

pub for_each_mut-requires-sync-F : goal.for_each_mut-requires-sync-F
for_each_mut-requires-sync-F g c κs within =
    let N = param 0 g.row.N in
    let H = param 4 g.row.N-H in
    let M = param 5 g.row.N-Cache in
    let S = param 6 g.row.N-Seat in
    let P = param 7 g.row.N-H-Part in
    let r : IsSync (param 1 g.row.R) = search (c.type_bounds.sync-R, sendable) in
    let names : IsSync (param 0 g.row.N) = search (c.type_bounds.sync-N, sendable) in
    let cache : IsSync (param 5 g.row.N-Cache) = search (c.type_bounds.sync-N-Cache, sendable) in
    let gate : IsSync (param 2 g.row.G) = search (c.type_bounds.sync-G, sendable) in
    let calls : IsSync (param 3 g.row.C) = search (c.type_bounds.sync-C, sendable) in
    param_sync _ _ (arg_sync _ no _ (captured_sync _ N (param 2 g.row.G) (param 3 g.row.C) H M S P g.N.H.Host c.type_bounds.send-N-H c.type_bounds.sync-N-H names gate calls cache (param 1 g.row.R) _ _ _ _ _ _ _ _ _ r))

pub for_each_mut-requires-clause-accepts : goal.for_each_mut-requires-clause-accepts
for_each_mut-requires-clause-accepts g c κs within i worker below at =
    let Ready = IsReady g.N.NameCalls c.args.shared.now.cache.now c.args.shared.now.trace.now c.args.shared.now.zones.now c.args.shared.now.clock.now c.args.round i in (
      subst Ready (sym at) (c.requires.ready i worker.now below),
      (
        param_send _ _ (arg_send _ no _ c.type_bounds.send-N-H),
        param_send _ _ (arg_send _ no _ c.type_bounds.send-N-Seat),
        param_send _ _ (arg_send _ no _ c.type_bounds.send-G-Visit),
        search (c.type_bounds.sync-N, sendable),
        search (c.type_bounds.sync-R, sendable),
        search (c.type_bounds.sync-G, sendable),
        search (c.type_bounds.sync-C, sendable),
        search (c.type_bounds.sync-N-H, sendable),
        search (c.type_bounds.sync-N-Cache, sendable),
      ),
    )
