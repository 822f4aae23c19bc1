use Rattle.trace_text.proofs.Parts.{no_lines}
use Rattle.trace_text.proofs.trace_reading.rounds.RoundsSoFar.new.Goals as goal

pub invariant_of-result : goal.invariant_of-result
invariant_of-result c = no_lines c.new.result c.new-2.result.items c.new-3.result c.new.ensures c.new-2.ensures.items c.new-3.ensures.ops c.new-3.ensures.between
