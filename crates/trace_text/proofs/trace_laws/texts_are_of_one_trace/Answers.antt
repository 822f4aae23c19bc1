use Rattle.trace_text.proofs.TraceTexts.{one_trace}
use Rattle.trace_text.proofs.trace_laws.texts_are_of_one_trace.Goals as goal

pub returns : goal.returns
returns c = one_trace
