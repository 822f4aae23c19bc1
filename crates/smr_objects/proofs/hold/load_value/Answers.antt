use Rattle.std.proofs.Common.{ap, sym, ◌∙◌, arith}
use Rattle.smr_clock.specs.declared.clock.Setup.{Setup}
use Rattle.smr_clock.specs.declared.host.HostAct.TheVariants.{Load}
use Rattle.smr_clock.specs.Belongs.{TableId}
use Rattle.smr_objects.specs.Cells.{value_place}
use Rattle.smr_objects.proofs.PassSteps.{reads_value-keeps}
use Rattle.smr_objects.proofs.PassCalls.{value_same, value_held, value_looked}
use Rattle.smr_objects.proofs.hold.load_value.Goals as goal

pub host_step-requires-clause-keeps : goal.host_step-requires-clause-keeps
host_step-requires-clause-keeps c = reads_value-keeps _ _ _ (ap (λ (p : TableId × Setup). p.1) c.requires.here) _ (let e = c.value_place-place.ensures in omega arith)

pub returns-clause-kept : goal.returns-clause-kept
returns-clause-kept c =
    record {
      here = c.host_step.ensures.here;
      same = value_same _ c.args.cell c.args.slot _ _ Load _ (c.value_place-place.ensures ∙ ap (λ (s : Setup). value_place s c.args.cell c.args.slot) (sym (ap (λ (p : TableId × Setup). p.1) c.requires.here))) c.host_step.ensures.stepped;
    }

pub returns-clause-reads : goal.returns-clause-reads
returns-clause-reads c =
    record {
      held = value_held _ c.args.cell c.args.slot _ _ Load _ (c.value_place-place.ensures ∙ ap (λ (s : Setup). value_place s c.args.cell c.args.slot) (sym (ap (λ (p : TableId × Setup). p.1) c.requires.here))) c.host_step.ensures.stepped;
      looked = value_looked _ c.args.cell c.args.slot _ _ Load _ (c.value_place-place.ensures ∙ ap (λ (s : Setup). value_place s c.args.cell c.args.slot) (sym (ap (λ (p : TableId × Setup). p.1) c.requires.here))) c.host_step.ensures.stepped;
    }
