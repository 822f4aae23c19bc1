use Rattle.std.proofs.Common.{◌≡◌, ◌<◌, ◌+◌, ◌*◌, ◌^◌, length, get_or, sym, ap, subst, arith}
use Rattle.std.proofs.lemmas.List.Elements.{All-get_or}
use Rattle.uma_bucket.specs.Home.{Home}
use Rattle.uma_bucket.specs.Sums.{Balance}
use Rattle.uma_bucket.proofs.Added.{fewer}
use Rattle.uma_domain.specs.declared.domain.Domain.{Domain}
use Rattle.uma_zone.specs.OneDomain.{IsDomainOf}
use Rattle.uma_zone.specs.Domains.{domains_home, domains_clock, domains_smr}
use Rattle.uma_zone.proofs.domains.ZoneDomains.sums.Goals as goal

pub loop-domain-init : goal.loop-domain-init
loop-domain-init g c = record { few = c.none-sums.ensures.few (0 * 2 ^ 32); balance = c.none-sums.ensures.balance (domains_home c.args.self.now).zone }

pub add_sums-requires-clause-room : goal.add_sums-requires-clause-room
add_sums-requires-clause-room g c =
    let at = c.loop-domain.domain-index in
    let same : length c.deref-domain-items.result.now ≡ length c.args.self.now.domains.items = ap length c.deref-domain-items.ensures.value in
    fewer c.loop-domain.sums (at * 2 ^ 32) (2 ^ 62) (omega (arith, same, c.loop-domain-test.true, c.args.self.now.few)) c.loop-domain.invariant.few

pub add_sums-requires-clause-few : goal.add_sums-requires-clause-few
add_sums-requires-clause-few g c = fewer c.in_ok-more.more (2 ^ 32) (2 ^ 62) (omega arith) c.in_ok-more.ensures.few

pub loop-domain-preserved : goal.loop-domain-preserved
loop-domain-preserved g c =
    let them = c.args.self.now in
    let at = c.loop-domain.domain-index in
    let P = λ (d : Domain _ _ _ _ _). IsDomainOf (domains_clock them) (domains_home them) (domains_smr them) d in
    let same = c.deref-domain-items.ensures.value in
    let long : length c.deref-domain-items.result.now ≡ length them.domains.items = ap length same in
    let within : at < length them.domains.items = omega (arith, long, c.loop-domain-test.true) in
    let there : c.domain-item.result ≡ get_or them.domains.items at c.domain-item.result = subst (λ (l : _). c.domain-item.result ≡ get_or l at c.domain-item.result) same c.domain-item.is in
    let of : P c.domain-item.result = subst P (sym there) (All-get_or P them.domains.items at c.domain-item.result within them.of_zone) in
    record {
      few = fewer c.add_sums.new.self (at * 2 ^ 32 + 2 ^ 32) ((at + 1) * 2 ^ 32) (omega arith) (c.add_sums.ensures.few (at * 2 ^ 32) (2 ^ 32) c.loop-domain.invariant.few c.in_ok-more.ensures.few);
      balance = c.add_sums.ensures.balance (domains_home them).zone c.loop-domain.invariant.balance (subst (λ (x : Home). Balance x.zone c.in_ok-more.more) of.same_home c.in_ok-more.ensures.balance);
    }

pub returns : goal.returns
returns g c =
    let at = c.loop-domain.domain-index in
    let same : length c.deref-domain-items.result.now ≡ length c.args.self.now.domains.items = ap length c.deref-domain-items.ensures.value in
    record {
      few = fewer c.loop-domain.sums (at * 2 ^ 32) (2 ^ 34) (omega (arith, same, c.loop-domain.auto.domain-index-end, c.args.self.now.few)) c.loop-domain.invariant.few;
      balance = c.loop-domain.invariant.balance;
    }
