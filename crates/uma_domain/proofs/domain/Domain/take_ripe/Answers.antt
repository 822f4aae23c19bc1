use Rattle.std.proofs.Common.{◌≡◌, IfSome, ap, ◌∙◌, subst, rules}
use Rattle.uma_domain.specs.Domain.{domain_identity}
use Rattle.uma_domain.specs.Identity.{Identity}
use Rattle.uma_domain.specs.Listed.{IsRipeOf}
use Rattle.uma_domain.specs.Lists.{lists_identity}
use Rattle.uma_domain.proofs.UnderLock.{takes_oldest, finds_none_ripe}
use Rattle.uma_domain.proofs.domain.Domain.take_ripe.Goals as goal

pub returns : goal.returns
returns g c =
    let was = c.deref_mut.result.now.lists in
    let is = c.take_ripe.new.self in
    let of : lists_identity was ≡ domain_identity c.args.self.now = ap (λ locked. lists_identity locked.lists) c.deref_mut.ensures.value ∙ c.lock-guard.ensures.kept in
    let took = c.take_ripe.ensures in
    record {
      of_domain = subst (λ (id : Identity). IfSome c.take_ripe.result (IsRipeOf id)) of took.counts.of_domain;
      hit = search rules;
      raised = took.counts.raised;
      taken = takes_oldest c.args.self.now was is of c.args.share.now c.take_ripe.result c.take_ripe.new.share took;
      looked = finds_none_ripe c.args.self.now was is of c.args.share.now c.take_ripe.result c.take_ripe.new.share took;
    }
