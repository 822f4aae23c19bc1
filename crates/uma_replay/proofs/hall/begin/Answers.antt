use Rattle.std.proofs.Common.{◌≡◌, ◌%◌, List, [], length, ap, arith, refl, subst, sym, ◌∙◌}
use Rattle.std.proofs.lemmas.Iterator.Adapters.{YieldsList-from_vec}
use Rattle.std.proofs.lemmas.Iterator.Consumers.{YieldsList-end, YieldsList-turn}
use Rattle.std.proofs.lemmas.List.{length-map, map-id}
use Rattle.std.proofs.lemmas.Option.{none-some}
use Rattle.replay_worker.specs.declared.worker_run.WorkerRun.{WorkerRun}
use Rattle.replay_worker.specs.declared.worker.Worker.{Worker}
use Rattle.replay_worker.specs.Attendance.{is_out, worker_at, worker_in}
use Rattle.uma_replay.specs.Playing.{AreFirst}
use Rattle.uma_replay.proofs.WorkerRuns.{first_more, first_of}
use Rattle.uma_replay.proofs.hall.begin.Goals as goal

pub loop-worker-preserved : goal.loop-worker-preserved
loop-worker-preserved g c =
    let names = g.N.NameCalls in
    let cache = c.args.cache.now in
    let domains = c.args.domains in
    let begun = c.loop-worker.runs in
    let seat = c.in_ok-seat in
    let new = c.new.ensures in
    let number = c.len-in-loop-worker.ensures ∙ begun.ok.0 in
    first_more names cache domains c.loop-worker.yielded begun.items c.push.new.self.items c.in-Some.worker c.new.result c.loop-worker.invariant
    (first_of names cache seat.seat (length begun.items % domains) c.new.result seat.ensures.seat (λ serves. seat.ensures.own serves ∙ ap (λ n. n % domains) number) seat.ensures.fresh seat.ensures.unused new.seat new.counts new.asked new.gave_up (ap is_out new.worker))
    (ap worker_at new.worker) c.in_ok-push.ensures.items

pub loop-worker-init : goal.loop-worker-init
loop-worker-init g c =
    let P : List (WorkerRun _ _ _ _ _ _) → Type 0 = λ list. AreFirst g.N.NameCalls c.args.cache.now c.args.domains [] list in
    subst P (sym c.in_ok-runs.ensures.items) (record { are = refl; each = λ n r at. absurd (none-some r at) })

pub overflow_cast-domain : goal.overflow_cast-domain
overflow_cast-domain g c =
    let workers = c.args.workers.items in
    let begun = c.loop-worker.runs in
    let turn = YieldsList-turn (YieldsList-from_vec workers (cc) (cc)) c.loop-worker.yielded c.loop-worker.worker-iterator c.loop-worker.yielded_by c.next.result c.next.new.self c.in-Some.worker c.in-Some.is c.next.ensures.steps in
    let number : c.len-in-loop-worker.result ≡ length begun.items = c.len-in-loop-worker.ensures ∙ begun.ok.0 in
    let each : length begun.items ≡ length c.loop-worker.yielded = sym (length-map begun.items worker_in) ∙ ap length c.loop-worker.invariant.are in
    omega (arith, number, each, turn.0, c.requires.few)

pub returns : goal.returns
returns g c =
    let workers = c.args.workers.items in
    let end = YieldsList-end (YieldsList-from_vec workers (cc) (cc)) c.loop-worker.yielded c.loop-worker.worker-iterator c.loop-worker.yielded_by c.next.result c.next.new.self c.in-None.is c.next.ensures.steps in
    let P : List (Worker _ _ _) → Type 0 = λ list. AreFirst g.N.NameCalls c.args.cache.now c.args.domains list c.loop-worker.runs.items in
    subst P (sym (map-id c.loop-worker.yielded) ∙ end.0) c.loop-worker.invariant
