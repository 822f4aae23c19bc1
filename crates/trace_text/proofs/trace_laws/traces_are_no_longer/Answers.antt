use Rattle.trace_text.proofs.TextLength.{traces_are_no_longer}
use Rattle.trace_text.proofs.trace_laws.traces_are_no_longer.Goals as goal

pub returns : goal.returns
returns c = traces_are_no_longer
