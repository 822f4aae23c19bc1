-- The run goes on by one step, or stops at the step that was refused.
use Rattle.std.proofs.Common.{arith}
use Rattle.smr_core.proofs.RunLemmas.{run_more, stops}
use Rattle.smr_core.proofs.laws.replay.Goals as goal

pub returns-in-Err-apply-clause-stopped : goal.returns-in-Err-apply-clause-stopped
returns-in-Err-apply-clause-stopped c =
    stops c.args.core.now c.loop-index.core c.apply.new.self c.args.steps.now c.loop-index.index c.loop-index.seens.items _ c.in-Err-apply.refused
    c.loop-index-test.true c.loop-index.invariant.run c.in-Err-apply.ensures.step.refused c.in-Err-apply.ensures.step.unchanged

pub loop-index-preserved : goal.loop-index-preserved
loop-index-preserved c =
    record {
      run = rw c.push_reserved.ensures.items
          (run_more c.args.core.now c.loop-index.core c.apply.new.self c.args.steps.now c.loop-index.index c.loop-index.seens.items _ c.in-Ok-apply.seen
          c.loop-index-test.true c.loop-index.invariant.run c.in-Ok-apply.ensures.step.stepped);
      count = let e = c.push_reserved.ensures.len in let i = c.loop-index.invariant.count in omega arith;
      room = let e = c.push_reserved.ensures.capacity in let i = c.loop-index.invariant.room in omega arith;
    }
