use Rattle.std.proofs.Common.{◌<◌, refl, sym, ◌∙◌, subst, rules, arith}
use Rattle.smr_clock.specs.declared.view.View.{View}
use Rattle.smr_clock.specs.Belongs.{view}
use Rattle.uma_zone.specs.Domains.{domain_count}
use Rattle.uma_zone.specs.OwnDomain.{SettlesFirst}
use Rattle.uma_zone.specs.Stopped.{StopsSettling}
use Rattle.uma_zone.proofs.Settled.{at_err, settled_none, settled_more}
use Rattle.uma_zone.proofs.domains.ZoneDomains.settle_each.Goals as goal

pub loop-domain-init : goal.loop-domain-init
loop-domain-init g c = record { pass = record { goes_on = record { own = c.requires.pass; phase = refl; seen = omega arith }; host = refl }; settled = settled_none c.args.self.now g.H.Host.copied (view c.args.pass.now) }

pub loop-domain-preserved : goal.loop-domain-preserved
loop-domain-preserved g c =
    let before = c.loop-domain.invariant in
    let done = c.settle.ensures in
    record {
      pass = record {
        goes_on = record { own = done.pass.goes_on.own; phase = done.pass.goes_on.phase ∙ before.pass.goes_on.phase; seen = omega (arith, done.pass.goes_on.seen, before.pass.goes_on.seen) };
        host = done.pass.host ∙ before.pass.host;
      };
      settled = settled_more c.args.self.now g.H.Host.copied (view c.args.pass.now) (view c.loop-domain.pass) (view c.settle.new.pass) c.loop-domain.domain before.settled c.in_ok-settle.ensures.settled;
    }

pub returns-in_err-settle : goal.returns-in_err-settle
returns-in_err-settle g c =
    let few : c.loop-domain.domain < domain_count c.args.self.now = search rules in
    let stops : StopsSettling c.args.self.now g.H.Host.copied (view c.args.pass.now) (view c.settle.new.pass) = record {
      count = c.loop-domain.domain;
      few = few;
      before = subst (λ (v : View _). SettlesFirst c.args.self.now g.H.Host.copied (view c.args.pass.now) c.loop-domain.domain v) (sym c.in_err-settle.ensures.unseen) c.loop-domain.invariant.settled;
      here = c.in_err-settle.ensures.part;
    } in
    record { pass = search rules; settled = search rules; stopped = at_err _ stops }
