-- A worker of a replay may be sent to a thread, and the zones, whose items and hooks are the replay's, may be shared among threads.
use Rattle.std.proofs.Crossing.{Vec-send, crosses, sync as heap_sync}
use Rattle.std.specs.contracts.alloc.Global as heap
use denote.RattleType.{RattleType}
use denote.Builtin.{u64}
use denote.Ref.{NamedLft, ShrRef}
use base.Fml.{Lft}
use denote.Param.Send.{AllSync, IsSend, IsSync, enum_send, recorded_send, recorded_sync, struct_send, struct_sync, shr_sync, shr_slice_sync, sendable}
use denote.Struct.Field.{rows}
use denote.Struct.Tuple.{TupleAt, parts, type_at}
use denote.Struct.Struct.{Struct}
use mir.Syntax.{Lifetime, Sym}
use Rattle.std.proofs.Common.{List, [], ◌∷◌}
use denote.Struct.Declared.{shape}
use denote.Enum.Declared.{shape as enum_shape}
use Rattle.crossbeam_utils.proofs.cache_padded.CachePadded.TheSendSync as padded
use Rattle.smr_clock.specs.declared.host.Host as host
use Rattle.smr_clock.specs.contracts.clock.Clock as Clock
use Rattle.smr_clock.proofs.clock.Clock.TheSendSync as clock
use Rattle.smr_clock.proofs.pass.Pass.TheSendSync as pass
use Rattle.smr_clock.proofs.pass.Vacancy.TheSendSync as vacancy
use Rattle.trace_text.specs.contracts.trace.Trace as Trace
use Rattle.trace_text.proofs.trace.Trace.TheSendSync as trace
use Rattle.uma_zone.specs.contracts.zone.Zone as Zone
use Rattle.uma_zone.proofs.Shared.{seat_send, zone_sync}
use Rattle.replay_worker.specs.contracts.gate.Absentee as Absentee
use Rattle.replay_worker.specs.contracts.gate.Attendance as Attendance
use Rattle.replay_worker.specs.contracts.count_hooks.CountHooks as CountHooks
use Rattle.replay_worker.specs.contracts.count_hooks.CountHooksHooksCounted.TheImpl as count_hooks
use Rattle.replay_worker.specs.contracts.count_hooks.Counted as Counted
use Rattle.replay_worker.specs.contracts.count_hooks.CountedBody.TheImpl as counted_body
use Rattle.replay_worker.proofs.count_hooks.Counted.TheSendSync as counted
use Rattle.replay_worker.proofs.count_hooks.CountHooks.TheSendSync as counts
use Rattle.replay_worker.specs.contracts.name_work.NameWork as NameWork
use Rattle.replay_worker.proofs.name_work.NameCounts.TheSendSync as counts_of_names
use Rattle.replay_worker.specs.contracts.worker_run.WorkerRun as WorkerRun
use Rattle.replay_worker.specs.contracts.worker.Shared as Shared
use Rattle.replay_worker.proofs.slots.Slots.TheSendSync as slots
use Rattle.replay_worker.specs.contracts.worker.Worker as Worker

module _ (H P : RattleType) (h : host.Ghosts H.Denot P.Denot) (s : IsSend H) (y : IsSync H) where
  worker_field_send : IsSend (Worker.the_field H P h).row
  worker_field_send = struct_send (shape (Worker.the_type H P h)) (
    search (pass.the_field_send),
    (
      Vec-send _ (seat_send Counted.the_row H P _ h counted.the_send s y),
      (search (slots.the_send), (search sendable, (search sendable, tt))),
    ),
  )

  absentee_field_send : IsSend (Absentee.the_field H P h).row
  absentee_field_send = struct_send (shape (Absentee.the_type H P h)) (
    search (vacancy.the_field_send),
    (
      Vec-send _ (seat_send Counted.the_row H P _ h counted.the_send s y),
      (search (slots.the_send), (search sendable, (search sendable, tt))),
    ),
  )

  attendance_field_send : IsSend (Attendance.the_field H P h).row
  attendance_field_send = enum_send (enum_shape (Attendance.the_type H P h)) ((worker_field_send, tt), ((absentee_field_send, tt), tt))

  abbrev pub ZoneRow : RattleType
  ZoneRow = Zone.the_row Counted.the_row CountHooks.the_row H P counted_body.ghosts count_hooks.ghosts h

  pub counted_zone_sync : IsSync ZoneRow
  counted_zone_sync = zone_sync Counted.the_row CountHooks.the_row H P _ _ h counted.the_send counts.the_send counts.the_sync s y

  pub clock_sync : IsSync (Clock.the_row H P h)
  clock_sync = search (clock.the_sync, sendable) depth 20

module _ (N H C S P : RattleType) (h : host.Ghosts H.Denot P.Denot) (s : IsSend H) (y : IsSync H) (seat : IsSend S) where
  name_work_field_send : IsSend (NameWork.the_field N H C S P).row
  name_work_field_send = struct_send (shape (NameWork.the_type N H C S P)) (seat, (search (counts_of_names.the_field_send), tt))

  run_field_send : IsSend (WorkerRun.the_field N H C S P h).row
  run_field_send = struct_send (shape (WorkerRun.the_type N H C S P h))
      (attendance_field_send H P h s y, (name_work_field_send, (search sendable, (search sendable, (search (crosses, sendable) depth 20, (search (padded.the_field_send, sendable), tt))))))

  pub run_send : IsSend (WorkerRun.the_row N H C S P h)
  run_send = recorded_send (WorkerRun.the_field N H C S P h).row _ _ (WorkerRun.the_type N H C S P h).to_one run_field_send

pub trace_sync : IsSync Trace.the_row
trace_sync = search (trace.the_sync, sendable)

parts_sync : (Ts : List RattleType) → AllSync Ts → AllSync (rows (parts Ts))
parts_sync [] all = tt
parts_sync (T ∷ Ts) all = (all.0, parts_sync Ts all.1)

-- what captures only such values
pub tuple_sync : (ν : Sym) (Ts : List RattleType) → AllSync Ts → IsSync (TupleAt ν Ts)
tuple_sync ν Ts all = recorded_sync (Struct (shape (type_at ν Ts))) _ _ (type_at ν Ts).to_one (struct_sync (shape (type_at ν Ts)) (parts_sync Ts all))

-- what a round's threads share: the handle, the allocator, what all workers share, and the round
module _ (a : NamedLft) (N G C H M S P : RattleType) (h : host.Ghosts H.Denot P.Denot) (s : IsSend H) (y : IsSync H) (names : IsSync N) (gate : IsSync G) (calls : IsSync C) (cache : IsSync M) where
  shared_field_sync : IsSync (Shared.the_field a N G C H M S P h).row
  shared_field_sync = struct_sync (shape (Shared.the_type a N G C H M S P h)) (
    shr_sync _ _ _ trace_sync,
    (
      shr_slice_sync _ _ _ (counted_zone_sync H P h s y),
      (shr_sync _ _ _ (clock_sync H P h s y), (shr_sync _ _ _ names, (shr_sync _ _ _ cache, (shr_sync _ _ _ gate, (shr_sync _ _ _ calls, tt))))),
    ),
  )

  abbrev pub SharedRow : RattleType
  SharedRow = Shared.the_row a N G C H M S P h

  shared_sync : IsSync SharedRow
  shared_sync = recorded_sync (Shared.the_field a N G C H M S P h).row _ _ (Shared.the_type a N G C H M S P h).to_one shared_field_sync

  module _ (R : RattleType) (ℓ1 ℓ2 ℓ3 ℓ4 : Lifetime) (κ1 κ2 κ3 κ4 : Lft) where
    abbrev pub captured : List RattleType
    captured = ShrRef ℓ1 κ1 R ∷ ShrRef ℓ2 κ2 heap.the_row ∷ ShrRef ℓ3 κ3 SharedRow ∷ ShrRef ℓ4 κ4 u64 ∷ []

    pub captured_sync : (ν : Sym) → IsSync R → IsSync (TupleAt ν captured)
    captured_sync ν r = tuple_sync ν captured (shr_sync _ _ _ r, (shr_sync _ _ _ heap_sync, (shr_sync _ _ _ shared_sync, (shr_sync _ _ u64 (search sendable), tt))))
