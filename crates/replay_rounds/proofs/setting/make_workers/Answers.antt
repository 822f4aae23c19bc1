use Rattle.std.proofs.Common.{◌%◌, ◌+◌, ℕ, length, refl, sym, ap, subst, ◌∙◌}
use Rattle.std.proofs.lemmas.Iterator.Adapters.{YieldsList-from_vec}
use Rattle.std.proofs.lemmas.Iterator.Consumers.{YieldsList-turn}
use Rattle.std.proofs.lemmas.List.{length_push}
use Rattle.std.proofs.lemmas.Option.{slice_get_read}
use Rattle.replay_rounds.specs.Beginners.{IsBeginner}
use Rattle.replay_rounds.proofs.Beginners.{Begin, Begin-more}
use Rattle.replay_rounds.proofs.setting.make_workers.Goals as goal

pub new_worker-requires-clause-pass : goal.new_worker-requires-clause-pass
new_worker-requires-clause-pass g c =
    let passes = c.args.passes.items in
    let turn = YieldsList-turn (YieldsList-from_vec passes (cc) (cc)) c.loop-pass.yielded c.loop-pass.pass-iterator c.loop-pass.yielded_by c.next.result c.next.new.self c.in-Some.pass c.in-Some.is c.next.ensures.steps in
    c.requires.passes.each (length c.loop-pass.yielded) c.in-Some.pass (slice_get_read passes (length passes) (length c.loop-pass.yielded) c.in-Some.pass refl turn.0 turn.1)

pub loop-pass-preserved : goal.loop-pass-preserved
loop-pass-preserved g c =
    let zones = c.args.zones.now in
    let clock = c.args.clock.now in
    let domains = c.args.domains in
    let workers = c.loop-pass.workers.items in
    let new = c.in_ok-new_worker.field-0 in
    let is_new : IsBeginner zones clock (length workers % domains) new = subst (λ (n : ℕ). IsBeginner zones clock (n % domains) new) (c.len-in-loop-pass.ensures ∙ c.loop-pass.workers.ok.0) c.in_ok-new_worker.ensures in
    record {
      one_each = ap length c.in_ok-push.ensures.items ∙ length_push workers new ∙ ap (λ n. n + 1) c.loop-pass.invariant.one_each ∙ sym (length_push c.loop-pass.yielded c.in-Some.pass);
      each = subst (Begin zones clock domains) (sym c.in_ok-push.ensures.items) (Begin-more zones clock domains workers new is_new c.loop-pass.invariant.each);
    }
