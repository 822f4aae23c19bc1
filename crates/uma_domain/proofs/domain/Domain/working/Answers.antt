use Rattle.std.proofs.Common.{ap, ◌∙◌}
use Rattle.uma_domain.specs.Lists.{lists_identity}
use Rattle.uma_domain.proofs.domain.Domain.working.Goals as goal

pub returns-clause-told : goal.returns-clause-told
returns-clause-told g c = record { was = c.deref.result.now.lists; of_domain = (ap (λ locked. lists_identity locked.lists) c.deref.ensures ∙ c.lock-guard.ensures.kept); same_least = c.working.ensures.pair.0; same_greatest = c.working.ensures.pair.1 }
