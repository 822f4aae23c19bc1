use Rattle.std.proofs.Common.{arith}
use Rattle.uma_replay.proofs.LimitLines.{line_added}
use Rattle.uma_replay.proofs.limits.add_limits.Goals as goal

pub loop-number-preserved : goal.loop-number-preserved
loop-number-preserved c = line_added c.args.place c.args.between.now c.loop-number.number _ _ c.loop-number.limits.items _ (omega arith) c.loop-number.invariant c.in_ok-add_limit.ensures
