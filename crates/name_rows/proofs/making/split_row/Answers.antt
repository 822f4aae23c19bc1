use Rattle.std.proofs.Common.{rules, ap, ◌∙◌}
use Rattle.smr_clock.specs.declared.view.View.{View}
use Rattle.smr_clock.specs.Belongs.{setup_of}
use Rattle.smr_clock.specs.Notes.{seat_knows}
use Rattle.name_rows.specs.declared.names.Part.{Part}
use Rattle.name_rows.specs.Moving.{rest_of_rows, first_row}
use Rattle.name_rows.proofs.SeatMoves.{split_keeps}
use Rattle.name_rows.proofs.RootSteps.{splits_row}
use Rattle.name_rows.proofs.OpeningLemmas.{rows_fresh, rows_out, rows_rest}
use Rattle.name_rows.proofs.making.split_row.Goals as goal

pub seat_split-requires-clause-keeps : goal.seat_split-requires-clause-keeps
seat_split-requires-clause-keeps c =
    split_keeps _ _ _ rest_of_rows first_row c.requires.here.1 (λ ws ps held here. splits_row _ ws ps _ _ held here (rows_fresh _ _ _ c.requires.rows))

pub returns : goal.returns
returns c =
    record {
      here = search rules;
      row_here = search rules;
      rows = ap (λ (v : View Part). v.host.rows) c.seat_split.ensures.splits.after
          ∙ rows_rest c.args.number (setup_of c.args.clock.now).plan.0 (seat_knows c.args.root.now).host.rows c.requires.number c.requires.rows;
      owned = search rules;
      row = ap (λ (v : View Part). v.host.rows) c.seat_split.ensures.splits.split
          ∙ rows_out c.args.number (setup_of c.args.clock.now).plan.0 (seat_knows c.args.root.now).host.rows c.requires.number c.requires.rows;
      none = search rules;
    }
