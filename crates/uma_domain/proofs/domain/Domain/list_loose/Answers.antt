use Rattle.std.proofs.Common.{ap, ◌∙◌}
use Rattle.uma_domain.specs.Lists.{lists_identity}
use Rattle.uma_domain.proofs.UnderLock.{puts_loose}
use Rattle.uma_domain.proofs.domain.Domain.list_loose.Goals as goal

pub returns : goal.returns
returns g c = record {
  back = c.put_loose.ensures.lists.back;
  put = puts_loose c.args.self.now c.deref_mut.result.now.lists c.put_loose.new.self (ap (λ locked. lists_identity locked.lists) c.deref_mut.ensures.value ∙ c.lock-guard.ensures.kept) c.args.bucket c.put_loose.result c.put_loose.ensures.lists c.put_loose.ensures.kept;
}
