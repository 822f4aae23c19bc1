use Rattle.std.proofs.Common.{◌%◌, ◌∙◌, ap, sym}
use Rattle.smr_clock.specs.Belongs.{TableId}
use Rattle.smr_clock.specs.declared.clock.Setup.{Setup}
use Rattle.name_rows.proofs.FindLemmas.{entry_below, finds_other, finds_it}
use Rattle.name_rows.proofs.finding.find.Goals as goal

pub load_key-requires : goal.load_key-requires
load_key-requires c =
    record {
      here = c.in-Some.ensures.here;
      names = c.requires.names;
      entry = entry_below _ _ c.args.key _ (c.row_of.ensures.row ∙ ap (λ (s : Setup). c.args.key % s.plan.0) (sym (ap (λ (p : TableId × Setup). p.1) c.requires.here))) _ c.requires.inside c.in-Some.ensures.reads _ (ap (λ (p : TableId × Setup). p.1) c.requires.here);
    }

pub returns-then-load_key-key-clause-finds : goal.returns-then-load_key-key-clause-finds
returns-then-load_key-key-clause-finds c =
    finds_other _ _ c.args.key _ (c.row_of.ensures.row ∙ ap (λ (s : Setup). c.args.key % s.plan.0) (sym (ap (λ (p : TableId × Setup). p.1) c.requires.here))) _ c.requires.inside c.in-Some.ensures.reads _ _
    c.load_key.ensures.same c.load_key.ensures.held c.if-load_key-key.true

pub load_value-requires : goal.load_value-requires
load_value-requires c =
    record {
      here = c.load_key.ensures.here;
      names = c.requires.names;
      entry = entry_below _ _ c.args.key _ (c.row_of.ensures.row ∙ ap (λ (s : Setup). c.args.key % s.plan.0) (sym (ap (λ (p : TableId × Setup). p.1) c.requires.here))) _ c.requires.inside c.in-Some.ensures.reads _ (ap (λ (p : TableId × Setup). p.1) c.requires.here);
    }

pub returns-clause-finds : goal.returns-clause-finds
returns-clause-finds c =
    finds_it _ _ c.args.key _ (c.row_of.ensures.row ∙ ap (λ (s : Setup). c.args.key % s.plan.0) (sym (ap (λ (p : TableId × Setup). p.1) c.requires.here))) _ c.requires.inside c.in-Some.ensures.reads _ _ _ _
    c.load_key.ensures.same c.load_value.ensures.same c.load_key.ensures.held c.if-load_key-key.false c.load_value.ensures.held
