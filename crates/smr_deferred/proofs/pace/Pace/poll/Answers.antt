use Rattle.std.proofs.Common.{refl, arith, ◌≤◌}
use Rattle.smr_deferred.specs.Asked.{asked_goal}
use Rattle.smr_deferred.proofs.Pacing.{knows_over}
use Rattle.smr_deferred.proofs.pace.Pace.poll.Goals as goal

pub returns-clause-over : goal.returns-clause-over
returns-clause-over g c said =
    let behind : c.args.self.now.moved ≤ asked_goal c.in-Some.asked = c.args.self.now.behind _ c.in-Some.is in
    let reached : c.args.goal ≤ c.args.self.now.moved = c.requires.reached in
    knows_over c.args.goal c.in-Some.asked c.poll.new.self _ c.no_section_is_before_a_known_goal.ensures.runs (omega arith) c.poll.ensures.polled.0 (c.poll.ensures.yes said) refl
