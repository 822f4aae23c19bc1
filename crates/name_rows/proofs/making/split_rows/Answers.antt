use Rattle.std.proofs.Common.{rules, ℕ, ap, ◌∙◌, arith}
use Rattle.smr_clock.specs.Belongs.{setup_of}
use Rattle.name_rows.proofs.OpeningLemmas.{rows_done}
use Rattle.name_rows.proofs.MakingSteps.{one_row_more, one_longer}
use Rattle.name_rows.proofs.making.split_rows.Goals as goal

pub loop-number-preserved : goal.loop-number-preserved
loop-number-preserved c =
    record {
      here = c.split_row-seat.ensures.here;
      left = c.split_row-seat.ensures.rows;
      owned = c.split_row-seat.ensures.owned ∙ c.loop-number.invariant.owned;
      long = one_longer c.loop-number.rows.items c.push_row.new.rows.items c.in_ok-row.row c.loop-number.number c.in_ok-push_row.ensures c.loop-number.invariant.long;
      rows = one_row_more c.args.clock.now c.args.version c.loop-number.number c.loop-number.rows.items c.push_row.new.rows.items c.in_ok-row.row c.loop-number.invariant.rows c.in_ok-push_row.ensures c.loop-number.invariant.long
          c.in_ok-row.ensures.here c.in_ok-row.ensures.row.0 c.in_ok-row.ensures.row.1 c.in_ok-row.ensures.row.2 c.in_ok-row.ensures.last;
    }

pub returns : goal.returns
returns c =
    record {
      here = c.loop-number.invariant.here;
      rest = c.loop-number.invariant.left
          ∙ rows_done c.loop-number.number (setup_of c.args.clock.now).plan.0 (let e = ap (λ (p : ℕ × ℕ). p.0) c.plan-number-end.ensures in let f = c.loop-number-test.false in omega arith);
      owned = c.loop-number.invariant.owned;
      long = search rules;
      rows = c.loop-number.invariant.rows;
    }
