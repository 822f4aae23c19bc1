use Rattle.trace_text.proofs.TraceTexts.{valid_trace}
use Rattle.trace_text.proofs.trace_laws.texts_are_of_valid_traces.Goals as goal

pub returns : goal.returns
returns c = valid_trace
