use Rattle.std.proofs.Common.{rules, ◌<◌, ℕ, List, sym, ap, ◌∙◌, subst}
use Rattle.atomic_table.specs.Table.{Me}
use Rattle.smr_clock.specs.declared.clock.Setup.{Setup}
use Rattle.smr_clock.specs.declared.view.View.{View}
use Rattle.smr_clock.specs.declared.pass.Pass.{Pass}
use Rattle.smr_clock.specs.Steps.{one_more_made, worker_view}
use Rattle.smr_clock.specs.Making.{fresh_view, AreSplitOff}
use Rattle.smr_clock.proofs.Splits.{worker_splits}
use Rattle.smr_clock.proofs.MakingLemmas.{one_more, one-for-each-seat}
use Rattle.smr_clock.proofs.making.make_passes.Goals as goal

pub split_seat-seat-requires : goal.split_seat-seat-requires
split_seat-seat-requires g c =
    let at = c.loop-number.invariant in
    let below : c.loop-number.number < c.args.setup.config.seats = search rules in (
      at.table,
      search rules,
      worker_splits _ g.H.Host.includes g.H.Host.copied g.H.Host.split _ _ _ c.loop-number.number
          (ap (λ (m : Me (Unit {0}) (View g.row.H-Part.Denot)). m.0.setup) at.knows ∙ sym c.requires.table.1)
          at.id
          (ap (λ (m : Me (Unit {0}) (View g.row.H-Part.Denot)). m.0.made) at.knows)
          (subst (λ (a : Setup). c.loop-number.number < a.config.seats) (sym c.requires.table.1) below),
    )

pub loop-number-preserved : goal.loop-number-preserved
loop-number-preserved g c =
    let at = c.loop-number.invariant in
    let split = c.split_seat-seat.ensures in
    let copied = g.H.Host.copied in
    let first = g.H.Host.first c.args.setup in
    record {
      table = split.0 ∙ at.table;
      id = split.1 ∙ at.id;
      knows = split.2 ∙ ap (λ (m : Me (Unit {0}) (View g.row.H-Part.Denot)). let after : Me (Unit {0}) (View g.row.H-Part.Denot) = (one_more_made m.0, m.1) in after) at.knows;
      count = search rules;
      workers = subst (λ (ps : List (Pass g.row.H.Denot g.row.H-Part.Denot g.H.Host)). AreSplitOff c.args.table.now.shared.table_id copied c.args.setup first ps) (sym c.in_ok-push.ensures.items)
          (one_more c.args.table.now.shared.table_id copied c.args.setup first c.loop-number.passes.items _ at.workers
          (split.3 ∙ at.table)
          (ap (λ (m : Me (Unit {0}) (View g.row.H-Part.Denot)). m.0) split.4 ∙ ap (λ (m : Me (Unit {0}) (View g.row.H-Part.Denot)). worker_view copied m.0) at.knows
          ∙ ap (λ (n : ℕ). fresh_view copied c.args.setup first n) (sym at.count)));
    }

pub returns : goal.returns
returns g c =
    let at = c.loop-number.invariant in
    record {
      one_each = search rules;
      workers = search rules;
      each_seat = one-for-each-seat c.args.table.now.shared.table_id g.H.Host.copied c.args.setup (g.H.Host.first c.args.setup) c.loop-number.passes.items at.workers (search rules);
      maker = search rules;
    }
