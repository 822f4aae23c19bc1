use Rattle.std.proofs.Common.{List, Vec, ap, ◌∙◌, arith}
use Rattle.std.specs.declared.alloc.Global.{Global}
use Rattle.trace_text.specs.declared.trace.Op.{Op}
use Rattle.trace_text.specs.Parts.{list_at}
use Rattle.trace_text.proofs.PartLists.{nothing_more}
use Rattle.trace_text.proofs.trace_reading.rounds.fill_up.Goals as goal

pub loop-alloc-preserved : goal.loop-alloc-preserved
loop-alloc-preserved c = record {
  kept = λ worker.
      ap (λ (lists : List (Vec Op Global)). list_at lists worker) c.in_ok-push.ensures.items
      ∙ nothing_more c.loop-alloc.lists.items worker c.new.result c.new.ensures.items
      ∙ c.loop-alloc.invariant.kept worker;
  few = λ le. omega (arith, c.in_ok-push.ensures.len);
}
