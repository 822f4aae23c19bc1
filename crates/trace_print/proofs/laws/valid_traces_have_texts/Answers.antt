use Rattle.trace_print.proofs.TraceRebuiltText.{valid_has_text}
use Rattle.trace_print.proofs.laws.valid_traces_have_texts.Goals as goal

pub returns : goal.returns
returns c = valid_has_text
