use Rattle.std.proofs.Common.{◌<◌, ap, sym, subst, ◌∙◌, arith}
use Rattle.smr_clock.specs.declared.clock.Setup.{Setup}
use Rattle.smr_clock.specs.declared.host.HostAct.TheVariants.{Subtract}
use Rattle.smr_clock.specs.Belongs.{TableId}
use Rattle.smr_objects.specs.Cells.{hold_place}
use Rattle.smr_objects.proofs.HoldSteps.{release-keeps}
use Rattle.smr_objects.proofs.PassCalls.{hold_given}
use Rattle.smr_objects.proofs.hold.hold_subtract.Goals as goal

pub host_step-requires-clause-keeps : goal.host_step-requires-clause-keeps
host_step-requires-clause-keeps c =
    release-keeps _ _ _ (ap (λ (p : TableId × Setup). p.1) c.requires.here) c.args.hold.cell c.args.hold.slot (subst (λ (s : Setup). c.args.hold.cell < s.plan.0) (ap (λ (p : TableId × Setup). p.1) c.requires.here) c.requires.holds.cell_below)
    (let h = c.requires.objects.plan.few_slots in let s = subst (λ (t : Setup). c.args.hold.slot < t.plan.1) (ap (λ (p : TableId × Setup). p.1) c.requires.here) c.requires.holds.slot_below in omega arith) _ c.hold_place-place.ensures c.requires.holds.held

pub returns : goal.returns
returns c =
    record {
      here = c.host_step.ensures.here;
      holds = hold_given _ c.args.hold.cell c.args.hold.slot _ c.host_step.result (Subtract 1) _ (let h = c.requires.objects.plan.few_slots in let s = subst (λ (t : Setup). c.args.hold.slot < t.plan.1) (ap (λ (p : TableId × Setup). p.1) c.requires.here) c.requires.holds.slot_below in omega arith) (c.hold_place-place.ensures ∙ ap (λ (s : Setup). hold_place s c.args.hold.cell c.args.hold.slot) (sym (ap (λ (p : TableId × Setup). p.1) c.requires.here))) c.host_step.ensures.stepped;
    }
