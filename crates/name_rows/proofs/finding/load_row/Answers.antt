use Rattle.std.proofs.Common.{◌∙◌, ap, sym, subst}
use Rattle.smr_clock.specs.Belongs.{TableId}
use Rattle.smr_clock.specs.declared.clock.Setup.{Setup}
use Rattle.smr_clock.specs.declared.host.HostAct.TheVariants.{Load}
use Rattle.name_rows.specs.Records.{row_place}
use Rattle.name_rows.specs.NamesLaw.{IsPlan}
use Rattle.name_rows.proofs.Loads.{reads_row-keeps}
use Rattle.name_rows.proofs.FindLemmas.{row_read}
use Rattle.name_rows.proofs.finding.load_row.Goals as goal

pub host_step-word-requires-clause-keeps : goal.host_step-word-requires-clause-keeps
host_step-word-requires-clause-keeps c = reads_row-keeps _ _ _ (ap (λ (p : TableId × Setup). p.1) c.requires.here) c.requires.inside _ _ c.requires.row c.row_place.ensures

pub returns-clause-reads : goal.returns-clause-reads
returns-clause-reads c =
    row_read _ _ _ _ Load _ _ (subst (λ (s : Setup). IsPlan s.plan.0 s.plan.1) (sym (ap (λ (p : TableId × Setup). p.1) c.requires.here)) c.requires.names.plan)
    (c.row_place.ensures ∙ ap (λ (s : Setup). row_place s c.args.row) (sym (ap (λ (p : TableId × Setup). p.1) c.requires.here))) c.host_step-word.ensures.stepped c.entry_of.ensures
