use Rattle.std.proofs.Common.{rules, arith, ◌∙◌, ap, sym}
use Rattle.smr_clock.specs.Belongs.{TableId}
use Rattle.smr_clock.specs.declared.clock.Setup.{Setup}
use Rattle.smr_clock.specs.declared.host.HostAct.TheVariants.{Load}
use Rattle.name_rows.specs.Records.{value_place}
use Rattle.name_rows.proofs.Loads.{reads_entry-keeps}
use Rattle.name_rows.proofs.FindLemmas.{entry_read, value_read}
use Rattle.name_rows.proofs.finding.load_value.Goals as goal

pub host_step-requires-clause-keeps : goal.host_step-requires-clause-keeps
host_step-requires-clause-keeps c = reads_entry-keeps _ _ _ (ap (λ (p : TableId × Setup). p.1) c.requires.here) _ (let e = c.value_place.ensures in omega arith)

pub returns : goal.returns
returns c =
    record {
      here = search rules;
      same = entry_read _ _ _ Load _ c.host_step.ensures.stepped;
      held = value_read _ _ _ _ Load _ (c.value_place.ensures ∙ ap (λ (s : Setup). value_place s c.args.entry) (sym (ap (λ (p : TableId × Setup). p.1) c.requires.here))) c.host_step.ensures.stepped;
    }
