use Rattle.std.proofs.Common.{ap, ◌∙◌}
use Rattle.uma_domain.specs.Lists.{lists_identity}
use Rattle.uma_domain.proofs.UnderLock.{seals_loose}
use Rattle.uma_domain.proofs.domain.Domain.seal_loose.Goals as goal

pub returns-clause-tried : goal.returns-clause-tried
returns-clause-tried g c = seals_loose c.args.self.now c.deref_mut.result.now.lists c.seal_loose.new.self (ap (λ locked. lists_identity locked.lists) c.deref_mut.ensures.value ∙ c.lock-guard.ensures.kept) g.H.Host.copied c.args.clock.now _ c.args.pass.now c.seal_loose.new.pass _ c.seal_loose.result _ c.requires.here c.seal_loose.ensures.tried c.seal_loose.ensures.kept
