-- Each step keeps the law, and a refusal leaves the state as it was.
use Rattle.smr_core.proofs.CoreLemmas.{law_after}
use Rattle.smr_core.proofs.clock_core.Core.apply.Goals as goal

pub invariant_of-self : goal.invariant_of-self
invariant_of-self c = law_after _ _ c.args.step c.apply.result c.self.invariant c.apply.ensures.stepped c.apply.ensures.unchanged

pub returns-clause-law : goal.returns-clause-law
returns-clause-law c = law_after _ _ c.args.step c.apply.result c.self.invariant c.apply.ensures.stepped c.apply.ensures.unchanged
