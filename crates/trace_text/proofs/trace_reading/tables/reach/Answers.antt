use Rattle.std.proofs.Common.{Bool, List, ap, ◌∙◌, false, get_or}
use Rattle.trace_text.proofs.EmptySlots.{one_more}
use Rattle.trace_text.proofs.trace_reading.tables.reach.Goals as goal

pub loop-table-preserved : goal.loop-table-preserved
loop-table-preserved c = record {
  same = λ i. ap (λ (table : List Bool). get_or table i false) c.in_ok-push.ensures.items ∙ one_more c.loop-table.table.items i ∙ c.loop-table.invariant.same i;
}
