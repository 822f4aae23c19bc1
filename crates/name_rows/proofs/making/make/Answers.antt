use Rattle.std.proofs.Common.{rules, List, ap, sym, subst, ◌∙◌}
use Rattle.smr_clock.specs.declared.clock.Setup.{Setup}
use Rattle.smr_clock.specs.declared.view.View.{View}
use Rattle.smr_clock.specs.Making.{setup}
use Rattle.name_rows.specs.declared.entry.Owned.{Owned}
use Rattle.name_rows.specs.declared.names.Part.{Part}
use Rattle.name_rows.specs.declared.row.Row.{Row}
use Rattle.name_rows.specs.Moving.{found, entry_no}
use Rattle.name_rows.specs.Opening.{AreOpenRows}
use Rattle.name_rows.proofs.OpeningLemmas.{names_opens, words_fit, table_owns, table_loose}
use Rattle.name_rows.proofs.making.make.Goals as goal

pub hosted-requires : goal.hosted-requires
hosted-requires c =
    record {
      opens = names_opens (setup c.args.seats c.args.start c.args.window (c.args.rows, c.args.entries)) c.args.version c.in_ok-check.ensures.accepted.version c.in_ok-check.ensures.accepted.plan c.in-Ok.more.items c.in-Ok.ensures;
    }

pub invariant_of-root : goal.invariant_of-root
invariant_of-root c =
    let owned = c.in-Ok-split_rows.ensures.owned ∙ ap (λ (v : View Part). v.host.owned) c.in-Ok-hosted.ensures.seat in
    let long = c.in-Ok-fresh_entries.ensures.long in
    let fresh = c.in-Ok-fresh_entries.ensures.fresh in
    record {
      no_rows = c.in-Ok-split_rows.ensures.rest;
      owns = λ n. ap (λ (l : List Owned). found entry_no n l) owned ∙ table_owns c.args.entries c.in-Ok-fresh_entries.kept.items long fresh n;
      loose = table_loose c.args.entries c.in-Ok-fresh_entries.kept.items long fresh;
      all = long ∙ sym (ap (λ (s : Setup). s.plan.1) (c.in-Ok-split_rows.ensures.here.1 ∙ c.in-Ok-hosted.ensures.clock));
    }

pub returns-clause-made : goal.returns-clause-made
returns-clause-made c =
    let made = setup c.args.seats c.args.start c.args.window (c.args.rows, c.args.entries) in
    record {
      clock = search rules;
      names = record {
        seats = search rules;
        plan = search rules;
        room = words_fit made c.args.version c.in-Ok.more.items _ _ c.in-Ok.ensures c.in-Ok-hosted.ensures.clock c.in-Ok-hosted.ensures.words;
      };
      passes = search rules;
      long = search rules;
      rows = subst (λ (l : List Row). AreOpenRows c.in-Ok-hosted.clock c.args.version l) (sym c.from_vec-2.ensures) c.in-Ok-split_rows.ensures.rows;
      root = search rules;
      entries = search rules;
    }
