use Rattle.std.proofs.Common.{ap, sym, subst, ◌∙◌}
use Rattle.smr_clock.specs.declared.clock.Setup.{Setup}
use Rattle.smr_clock.specs.declared.host.HostAct.TheVariants.{Load}
use Rattle.smr_clock.specs.Belongs.{TableId}
use Rattle.smr_objects.specs.Cells.{cell_place}
use Rattle.smr_objects.specs.ObjectsLaw.{IsPlan}
use Rattle.smr_objects.proofs.PassSteps.{reads_cell-keeps}
use Rattle.smr_objects.proofs.PassCalls.{sees_none, sees_record}
use Rattle.smr_objects.proofs.hold.load_cell.Goals as goal

pub host_step-word-requires-clause-keeps : goal.host_step-word-requires-clause-keeps
host_step-word-requires-clause-keeps c = reads_cell-keeps _ _ _ (ap (λ (p : TableId × Setup). p.1) c.requires.here) c.requires.inside c.args.cell _ c.requires.below c.cell_place-place.ensures

pub returns-clause-sees : goal.returns-clause-sees
returns-clause-sees c =
    record {
      none = λ none. sees_none _ c.args.cell _ c.host_step-word.result Load _ (subst (λ (s : Setup). IsPlan s.plan.0 s.plan.1) (sym (ap (λ (p : TableId × Setup). p.1) c.requires.here)) c.requires.objects.plan) (c.cell_place-place.ensures ∙ ap (λ (s : Setup). cell_place s c.args.cell) (sym (ap (λ (p : TableId × Setup). p.1) c.requires.here))) c.host_step-word.ensures.stepped none;
      some = λ some. sees_record _ c.args.cell _ c.host_step-word.result Load _ (subst (λ (s : Setup). IsPlan s.plan.0 s.plan.1) (sym (ap (λ (p : TableId × Setup). p.1) c.requires.here)) c.requires.objects.plan) (c.cell_place-place.ensures ∙ ap (λ (s : Setup). cell_place s c.args.cell) (sym (ap (λ (p : TableId × Setup). p.1) c.requires.here))) c.host_step-word.ensures.stepped some;
    }
