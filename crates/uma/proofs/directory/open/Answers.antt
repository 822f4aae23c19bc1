use Rattle.std.proofs.Common.{◌≡◌, ◌≤◌, ◌*◌, ap, sym, subst, arith}
use Rattle.smr_clock.specs.declared.clock.Setup.{Setup}
use Rattle.smr_clock.specs.Belongs.{setup_of}
use Rattle.name_cache.specs.Making.{FitsOpened}
use Rattle.name_rows.specs.declared.making.Opened.{Opened}
use Rattle.uma_zone.specs.declared.zone.make.ZoneSet.{ZoneSet}
use Rattle.uma.specs.declared.plan.NamePlan.{NamePlan}
use Rattle.uma.specs.NamePlan.{name_set_of}
use Rattle.smr_clock.specs.Making.{setup}
use Rattle.name_rows.specs.Records.{told}
use Rattle.name_cache.proofs.Opening.{is_opened}
use Rattle.uma.proofs.NoneLeft.{ready_still}
use Rattle.uma.proofs.Ready.{all_ready}
use Rattle.uma.proofs.directory.open.Goals as goal

fits : (opened : Opened) (set : ZoneSet) (plan : NamePlan) → set ≡ name_set_of plan → setup_of opened.clock ≡ setup plan.workers 1 1024 (plan.rows, 64 * plan.slabs) → FitsOpened opened set
fits opened set plan is at =
    let most : 64 * plan.slabs ≤ 64 * plan.slabs = omega arith in
    let room : 64 * plan.slabs ≤ (setup_of opened.clock).plan.1 = subst (λ (s : Setup). 64 * plan.slabs ≤ s.plan.1) (sym at) most in
    record {
      smr = ap (λ (s : ZoneSet). s.smr) is;
      entries = subst (λ (s : ZoneSet). 64 * s.slabs ≤ (setup_of opened.clock).plan.1) (sym is) room;
    }

pub new-requires : goal.new-requires
new-requires c =
    let made = c.in-Ok.ensures.made in
    record {
      opened = is_opened c.in-Ok.opened (setup c.args.plan.workers 1 1024 (c.args.plan.rows, 64 * c.args.plan.slabs)) 0 made.clock made.names made.long made.rows made.root;
      fits = fits c.in-Ok.opened _ c.args.plan c.set.ensures made.clock;
    }

pub returns-in-Ok-new-clause-ready : goal.returns-in-Ok-new-clause-ready
returns-in-Ok-new-clause-ready c =
    let opened = c.in-Ok.opened in
    ready_still opened.clock _ opened.passes _ c.in-Ok-new.ensures.made.same_clock c.in-Ok-new.ensures.made.same_passes (all_ready opened.clock told _ opened.passes c.in-Ok.ensures.made.passes)
