use Rattle.std.proofs.Common.{◌≡◌, ap, ◌∙◌}
use Rattle.uma_domain.specs.Domain.{domain_identity}
use Rattle.uma_domain.specs.Lists.{lists_identity}
use Rattle.uma_domain.proofs.UnderLock.{takes_unused, taken_own, keeps_lists}
use Rattle.uma_domain.proofs.domain.Domain.take_trim.Goals as goal

pub returns : goal.returns
returns g c =
    let was = c.deref_mut.result.now.lists in
    let is = c.take_trim.new.self in
    let of : lists_identity was ≡ domain_identity c.args.self.now = ap (λ locked. lists_identity locked.lists) c.deref_mut.ensures.value ∙ c.lock-guard.ensures.kept in
    let own = c.take_trim.ensures.own in
    record {
      of_domain = taken_own c.args.self.now was is of c.take_trim.result own.of_domain;
      taken = takes_unused c.args.self.now was is of c.take_trim.result c.take_trim.ensures.trimmed own;
      unchanged = keeps_lists c.args.self.now was is of c.take_trim.result own;
    }
