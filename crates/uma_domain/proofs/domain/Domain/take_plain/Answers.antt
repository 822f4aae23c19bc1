use Rattle.std.proofs.Common.{◌≡◌, IfSome, ap, ◌∙◌, subst, rules}
use Rattle.uma_domain.specs.Domain.{domain_identity}
use Rattle.uma_domain.specs.Identity.{Identity}
use Rattle.uma_domain.specs.Listed.{IsPlainOf}
use Rattle.uma_domain.specs.Lists.{lists_identity}
use Rattle.uma_domain.proofs.UnderLock.{takes_plain, finds_no_plain}
use Rattle.uma_domain.proofs.domain.Domain.take_plain.Goals as goal

pub returns : goal.returns
returns g c =
    let was = c.deref_mut.result.now.lists in
    let is = c.take_plain.new.self in
    let of : lists_identity was ≡ domain_identity c.args.self.now = ap (λ locked. lists_identity locked.lists) c.deref_mut.ensures.value ∙ c.lock-guard.ensures.kept in
    let took = c.take_plain.ensures in
    record {
      of_domain = subst (λ (id : Identity). IfSome c.take_plain.result (IsPlainOf id.home)) of took.counts.of_domain;
      hit = search rules;
      raised = took.counts.raised;
      taken = takes_plain c.args.self.now was is of c.args.share.now c.take_plain.result c.take_plain.new.share took;
      looked = finds_no_plain c.args.self.now was is of c.args.share.now c.take_plain.result c.take_plain.new.share took;
    }
