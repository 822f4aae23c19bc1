use Rattle.umarun.proofs.Outcomes.{input_not_refused, one_refusal, replayed_not_refused}
use Rattle.umarun.proofs.replaying.replayed_or_refused.Goals as goal

pub returns-clause-report : goal.returns-clause-report
returns-clause-report c = replayed_not_refused c.one_verdict.ensures.right

pub returns-clause-input : goal.returns-clause-input
returns-clause-input c = input_not_refused c.one_verdict.ensures.right

pub returns-clause-one : goal.returns-clause-one
returns-clause-one c = one_refusal c.one_verdict.ensures.line c.one_verdict.ensures.kind
