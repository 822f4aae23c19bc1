use Rattle.std.proofs.Common.{ap, ◌∙◌}
use Rattle.uma_domain.specs.Lists.{lists_identity}
use Rattle.uma_domain.proofs.domain.Domain.count.Goals as goal

pub returns-clause-counted : goal.returns-clause-counted
returns-clause-counted g c = record { was = c.deref.result.now.lists; of_domain = (ap (λ locked. lists_identity locked.lists) c.deref.ensures ∙ c.lock-guard.ensures.kept); all = c.count.ensures.all }
