use Rattle.std.proofs.Common.{◌≡◌, ◌+◌, [], ◌∷◌, ◌++◌, ap, ◌∙◌, length, arith, inl}
use Rattle.std.proofs.lemmas.List.{length_push}
use Rattle.std.proofs.lemmas.List.Elements.{All-push, All-same}
use Rattle.std.proofs.lemmas.Result.{err_from_is_err_and}
use Rattle.example_server.specs.Staff.{BeginsAt}
use Rattle.example_server.proofs.staff.hire_all.Goals as goal

pub loop-preserved : goal.loop-preserved
loop-preserved g c =
    let at = c.loop.invariant in
    let shared = c.args.shared.now in
    let worker = c.in_ok-worker.worker in
    let size : length c.push.new.self.items ≡ length c.loop.workers.items + 1 = ap length c.in-Ok.ensures.items ∙ length_push c.loop.workers.items worker in
    record {
      count = omega (arith, size, at.count);
      begin = All-same (BeginsAt shared) c.push.new.self.items (c.loop.workers.items ++ worker ∷ []) c.in-Ok.ensures.items (All-push (BeginsAt shared) c.loop.workers.items worker at.begin c.in_ok-worker.ensures.begin);
    }

pub returns-in_err-worker-clause-refused : goal.returns-in_err-worker-clause-refused
returns-in_err-worker-clause-refused g c =
    let p = err_from_is_err_and c.from_residual.result c.from_residual.ensures.1 in
    rw (p.1, p.2) c.in_err-worker.ensures.refused

pub returns-in_default-clause-refused : goal.returns-in_default-clause-refused
returns-in_default-clause-refused g c = inl tt
