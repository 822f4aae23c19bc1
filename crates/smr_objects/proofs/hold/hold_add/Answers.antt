use Rattle.std.proofs.Common.{ap, sym, ◌∙◌, arith}
use Rattle.smr_clock.specs.declared.clock.Setup.{Setup}
use Rattle.smr_clock.specs.declared.host.HostAct.TheVariants.{Add}
use Rattle.smr_clock.specs.Belongs.{TableId, view}
use Rattle.smr_objects.specs.Cells.{hold_place}
use Rattle.smr_objects.proofs.HoldSteps.{hold-keeps}
use Rattle.smr_objects.proofs.PassCalls.{none_held_of, hold_taken}
use Rattle.smr_objects.proofs.hold.hold_add.Goals as goal

pub host_step-requires-clause-keeps : goal.host_step-requires-clause-keeps
host_step-requires-clause-keeps c =
    hold-keeps _ _ _ (ap (λ (p : TableId × Setup). p.1) c.requires.here) c.args.cell c.args.slot c.requires.cell_below (let h = c.requires.objects.plan.few_slots in let s = c.requires.slot_below in omega arith) c.requires.inside c.requires.looked (none_held_of c.args.cell (view c.args.pass.now).host.holds c.requires.free) _ c.hold_place-place.ensures

pub returns-clause-kept : goal.returns-clause-kept
returns-clause-kept c =
    record {
      here = c.host_step.ensures.here;
      holds = hold_taken _ c.args.cell c.args.slot _ c.host_step.result (Add 1) _ (let h = c.requires.objects.plan.few_slots in let s = c.requires.slot_below in omega arith) (c.hold_place-place.ensures ∙ ap (λ (s : Setup). hold_place s c.args.cell c.args.slot) (sym (ap (λ (p : TableId × Setup). p.1) c.requires.here))) c.host_step.ensures.stepped;
    }
