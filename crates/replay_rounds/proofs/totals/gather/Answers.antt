use Rattle.std.proofs.Common.{ℕ, ◌≤◌, ◌∙◌, sym, subst}
use Rattle.replay_rounds.proofs.Gathering.{gathers_all, gathers_one, gathers_more, here_after}
use Rattle.replay_rounds.proofs.totals.gather.Goals as goal

pub loop-number-init : goal.loop-number-init
loop-number-init g c = gathers_one c.args.clock.now c.args.begun c.args.workers.now c.take_at.new.workers c.requires.here c.requires.begun.low c.take_at.ensures

pub loop-number-preserved : goal.loop-number-preserved
loop-number-preserved g c = gathers_more c.args.clock.now c.loop-number.number c.args.workers.now c.loop-number.workers c.pass_on.new.workers c.loop-number.invariant c.pass_on.ensures

pub pass_on-requires-clause-here : goal.pass_on-requires-clause-here
pass_on-requires-clause-here g c = here_after c.args.clock.now c.args.workers.now c.loop-number.workers c.loop-number.invariant.learn

pub returns : goal.returns
returns g c =
    let P : ℕ → Type 0 = λ n. n ≤ c.loop-number.number in
    let enough = subst P (sym c.loop-number.auto.workers ∙ c.loop-number.invariant.learn.count) c.loop-number-test.false in
    gathers_all c.args.clock.now c.loop-number.number c.args.workers.now c.loop-number.workers enough c.loop-number.invariant
