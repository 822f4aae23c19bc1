use Rattle.std.proofs.Common.{arith}
use Rattle.trace_text.proofs.TraceNumbers.{one_more}
use Rattle.trace_text.proofs.trace_reading.fields.digits_in.Goals as goal

pub loop-byte-preserved : goal.loop-byte-preserved
loop-byte-preserved c =
    let i = c.loop-byte.invariant in
    let h = one_more _ _ _ _ _ _ i.0 c.loop-byte-test.true i.1 i.2 c.from.ensures c.in-Some.ensures.value in
    (omega arith, h.0, h.1)
