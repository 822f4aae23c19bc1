use Rattle.std.proofs.Common.{arith, List, ◌++◌, ◌∙◌, ap, sym, map}
use Rattle.std.specs.List.{filter_map}
use Rattle.trace_text.specs.declared.trace.Between.{Between}
use Rattle.trace_text.specs.declared.trace.Round.{Round}
use Rattle.trace_text.specs.Lines.{Moves}
use Rattle.uma_replay.specs.Limits.{limit_in}
use Rattle.uma_replay.proofs.LimitLines.{limits_more}
use Rattle.uma_replay.proofs.limits.limits_had.Goals as goal

pub loop-number-preserved : goal.loop-number-preserved
loop-number-preserved c =
    let before = c.loop-number.limits.items in
    c.in_ok-add_limits.ensures ∙ (ap (λ (lines : List Between). before ++ filter_map (limit_in c.args.place) (map Moves lines)) (c.as_slice.ensures ∙ ap (λ (r : Round). r.between) (sym c.index-rounds-number.is))
    ∙ limits_more c.args.place c.args.first c.args.rounds.now c.loop-number.number c.index-rounds-number.result before (omega arith) c.index-rounds-number.is c.loop-number.invariant)
