use Rattle.std.proofs.Common.{◌≡◌, List, ap, length, refl, subst, sym, ◌∙◌}
use Rattle.std.proofs.lemmas.Iterator.Adapters.{YieldsList-from_vec}
use Rattle.std.proofs.lemmas.Iterator.Consumers.{YieldsList-end, YieldsList-turn}
use Rattle.std.proofs.lemmas.List.{map-id}
use Rattle.std.proofs.lemmas.Option.{none-some, slice_get_read}
use Rattle.replay_worker.specs.declared.worker.Worker.{Worker}
use Rattle.replay_worker.specs.declared.worker_run.WorkerRun.{WorkerRun}
use Rattle.replay_worker.specs.Together.{crew}
use Rattle.uma_replay.specs.Playing.{AllBack, gave_ups_of, name_works_of}
use Rattle.uma_replay.proofs.ComingBack.{back_more, pushed_map}
use Rattle.uma_replay.proofs.hall.dismiss.Goals as goal

pub into_worker-requires : goal.into_worker-requires
into_worker-requires g c =
    let runs = c.args.runs.items in
    let turn = YieldsList-turn (YieldsList-from_vec runs (cc) (cc)) c.loop-worker_run.yielded c.loop-worker_run.worker_run-iterator c.loop-worker_run.yielded_by c.next.result c.next.new.self c.in-Some.worker_run c.in-Some.is c.next.ensures.steps in
    record { pass = c.requires.here (length c.loop-worker_run.yielded) c.in-Some.worker_run (slice_get_read runs (length runs) (length c.loop-worker_run.yielded) c.in-Some.worker_run refl turn.0 turn.1) }

pub loop-worker_run-preserved : goal.loop-worker_run-preserved
loop-worker_run-preserved g c = record {
  workers = back_more c.args.clock.now c.loop-worker_run.yielded c.loop-worker_run.workers.items _ c.in-Some.worker_run c.into_worker.result c.loop-worker_run.invariant.workers c.into_worker.ensures.pass c.into_worker.ensures.keeps c.in_ok-push.ensures.items;
  name_works = pushed_map (λ (r : WorkerRun _ _ _ _ _ _). r.name_work) c.loop-worker_run.yielded c.in-Some.worker_run c.loop-worker_run.name_works.items _ c.loop-worker_run.invariant.name_works c.in_ok-push-2.ensures.items;
  gave_ups = pushed_map (λ (r : WorkerRun _ _ _ _ _ _). r.gave_up) c.loop-worker_run.yielded c.in-Some.worker_run c.loop-worker_run.gave_ups.items _ c.loop-worker_run.invariant.gave_ups c.in_ok-push-3.ensures.items;
}

pub loop-worker_run-init : goal.loop-worker_run-init
loop-worker_run-init g c = record {
  workers = record { count = ap length c.in_ok-workers.ensures.items; each = λ n before after at at_after. absurd (none-some before at) };
  name_works = c.in_ok-name_works.ensures.items;
  gave_ups = c.in_ok-gave_ups.ensures.items;
}

pub returns-clause-workers : goal.returns-clause-workers
returns-clause-workers g c =
    let end = YieldsList-end (YieldsList-from_vec c.args.runs.items (cc) (cc)) c.loop-worker_run.yielded c.loop-worker_run.worker_run-iterator c.loop-worker_run.yielded_by c.next.result c.next.new.self c.in-None.is c.next.ensures.steps in
    let P : List (WorkerRun _ _ _ _ _ _) → Type 0 = λ list. AllBack c.args.clock.now (crew list) c.loop-worker_run.workers.items in
    let Q : List (Worker _ _ _) → Type 0 = λ list. AllBack c.args.clock.now (crew c.args.runs.items) list in
    subst Q (sym c.from_vec.ensures) (subst P (sym (map-id c.loop-worker_run.yielded) ∙ end.0) c.loop-worker_run.invariant.workers)

pub returns-clause-name_works : goal.returns-clause-name_works
returns-clause-name_works g c =
    let end = YieldsList-end (YieldsList-from_vec c.args.runs.items (cc) (cc)) c.loop-worker_run.yielded c.loop-worker_run.worker_run-iterator c.loop-worker_run.yielded_by c.next.result c.next.new.self c.in-None.is c.next.ensures.steps in
    let P : List (WorkerRun _ _ _ _ _ _) → Type 0 = λ list. c.loop-worker_run.name_works.items ≡ name_works_of list in
    c.from_vec-2.ensures ∙ subst P (sym (map-id c.loop-worker_run.yielded) ∙ end.0) c.loop-worker_run.invariant.name_works

pub returns-clause-gave_ups : goal.returns-clause-gave_ups
returns-clause-gave_ups g c =
    let end = YieldsList-end (YieldsList-from_vec c.args.runs.items (cc) (cc)) c.loop-worker_run.yielded c.loop-worker_run.worker_run-iterator c.loop-worker_run.yielded_by c.next.result c.next.new.self c.in-None.is c.next.ensures.steps in
    let P : List (WorkerRun _ _ _ _ _ _) → Type 0 = λ list. c.loop-worker_run.gave_ups.items ≡ gave_ups_of list in
    c.from_vec-3.ensures ∙ subst P (sym (map-id c.loop-worker_run.yielded) ∙ end.0) c.loop-worker_run.invariant.gave_ups
