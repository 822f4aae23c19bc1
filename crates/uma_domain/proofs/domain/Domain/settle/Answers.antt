use Rattle.std.proofs.Common.{ap, ◌∙◌}
use Rattle.uma_domain.specs.Lists.{lists_identity}
use Rattle.uma_domain.proofs.UnderLock.{settles_inbox, settles_part}
use Rattle.uma_domain.proofs.domain.Domain.settle.Goals as goal

pub returns-clause-settled : goal.returns-clause-settled
returns-clause-settled g c = settles_inbox c.args.self.now c.deref_mut.result.now c.settle.new.self (ap (λ locked. lists_identity locked.lists) c.deref_mut.ensures.value ∙ c.lock-guard.ensures.kept) c.settle.result c.settle.ensures

pub returns-clause-stays : goal.returns-clause-stays
returns-clause-stays g c = settles_part c.args.self.now c.deref_mut.result.now c.settle.new.self (ap (λ locked. lists_identity locked.lists) c.deref_mut.ensures.value ∙ c.lock-guard.ensures.kept) c.settle.result c.settle.ensures.stays
