use Rattle.std.proofs.Common.{◌<◌, refl, vec_len, arith, rules}
use Rattle.std.proofs.lemmas.Result.{err_from_is_err_and}
use Rattle.trace_text.proofs.PartLists.{stays_same, takes_op}
use Rattle.trace_text.proofs.trace_reading.rounds.PartSoFar.push_op.Goals as goal

pub returns-in_ok-push-in-Some-clause-taken : goal.returns-in_ok-push-in-Some-clause-taken
returns-in_ok-push-in-Some-clause-taken c =
    let old = c.args.self.now in
    let there : c.args.worker < vec_len old.ops = search rules in
    takes_op c.args.worker c.args.op old _ c.in-Some.list.now c.push.new.self (omega (arith, old.ops.ok.0)) c.in-Some.ensures.value c.in_ok-push-in-Some.ensures.items refl refl

pub returns-in_err-push-in-Some-clause-same : goal.returns-in_err-push-in-Some-clause-same
returns-in_err-push-in-Some-clause-same c =
    let old = c.args.self.now in
    let there : c.args.worker < vec_len old.ops = search rules in
    let p = err_from_is_err_and c.from_residual.result c.from_residual.ensures.1 in
    rw p.1 (stays_same c.args.worker old _ c.in-Some.list.now c.push.new.self (omega (arith, old.ops.ok.0)) c.in-Some.ensures.value c.in_err-push-in-Some.ensures.items refl refl)
