use Rattle.std.proofs.Common.{◌≡◌, ap, ◌∙◌, subst}
use Rattle.std.specs.Prelude.{IfOk}
use Rattle.uma_bucket.specs.Sums.{Balance}
use Rattle.uma_domain.specs.Domain.{domain_identity}
use Rattle.uma_domain.specs.Identity.{Identity}
use Rattle.uma_domain.specs.Lists.{lists_identity}
use Rattle.uma_domain.proofs.UnderLock.{sums_listed, settles_part}
use Rattle.uma_domain.proofs.domain.Domain.sums.Goals as goal

pub returns : goal.returns
returns g c =
    let was = c.deref_mut.result.now in
    let of : lists_identity was.lists ≡ domain_identity c.args.self.now = ap (λ locked. lists_identity locked.lists) c.deref_mut.ensures.value ∙ c.lock-guard.ensures.kept in
    let told = c.sums.ensures.told in
    record {
      adds = sums_listed c.args.self.now was c.sums.new.self of c.sums.result told.adds;
      few = told.few;
      below = told.below;
      balance = subst (λ (id : Identity). IfOk c.sums.result (Balance id.home.zone)) of told.balance;
      stays = settles_part c.args.self.now was c.sums.new.self of c.sums.result told.stays;
    }
