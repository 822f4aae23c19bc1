use Rattle.std.proofs.lemmas.Result.{err_from_is_err_and}
use Rattle.trace_text.proofs.TraceTexts.{read_trace}
use Rattle.trace_text.proofs.trace_reading.parse.Goals as goal

pub returns-clause-valid : goal.returns-clause-valid
returns-clause-valid c =
    c.texts_are_of_valid_traces.ensures c.args.bytes.now c.in_ok-trace.field-0
    (read_trace c.args.bytes.now c.read_lines.new.grammar c.in_ok-trace.field-0 c.in_ok-read_lines.ensures.read c.in_ok-trace.ensures)

pub returns-in_err-read_lines-clause-refused : goal.returns-in_err-read_lines-clause-refused
returns-in_err-read_lines-clause-refused c =
    let p = err_from_is_err_and c.from_residual-in_err-read_lines.result c.from_residual-in_err-read_lines.ensures.1 in
    rw (p.1, p.2) (λ refused is. c.in_err-read_lines.ensures.refused refused (cc))
