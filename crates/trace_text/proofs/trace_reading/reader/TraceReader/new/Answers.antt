use Rattle.std.proofs.Common.{refl, arith}
use Rattle.trace_text.proofs.TraceFollowing.{knows_none}
use Rattle.trace_text.proofs.trace_reading.reader.TraceReader.new.Goals as goal

pub returns-clause-knows : goal.returns-clause-knows
returns-clause-knows c = knows_none _ refl refl refl refl refl refl c.new.ensures refl c.new-3.ensures c.in_ok-new.ensures.empty

pub returns-clause-kept : goal.returns-clause-kept
returns-clause-kept c = record { whole = c.in_ok-new.ensures.whole; workers = omega arith }
