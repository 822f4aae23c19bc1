-- A trace that was read has no more lines than its text has bytes.
use Rattle.std.proofs.Common.{ℕ, List, Result, Ok, Err}
use Rattle.std.specs.Prelude.{IfOk, IsErrOf}
use Rattle.trace_lines.specs.TextLines.{IsRefusedAt}
use Rattle.trace_lines.specs.declared.refused.ParseRefused.{ParseRefused}
use Rattle.trace_lines.specs.declared.refused.ParseRefused.TheVariants as parsing
use Rattle.trace_lines.specs.declared.refused.TraceRefused.{TraceRefused}
use Rattle.trace_text.specs.Grammar.{IsTraceText, trace_test}
use Rattle.trace_text.specs.TraceLaws.{TracesAreNoLonger}
use Rattle.trace_text.specs.Valid.{IsValid}
use Rattle.trace_text.specs.declared.trace.Trace.{Trace}
use Rattle.umarun.specs.Answers.{ReadsTrace}

pub reads_trace : (bytes : List ℕ) (answer : Result Trace ParseRefused) → TracesAreNoLonger → IfOk answer (IsTraceText bytes) → IfOk answer IsValid
    → ((refused : TraceRefused) → IsErrOf answer (parsing.Trace refused) → IsRefusedAt trace_test bytes refused.line refused.kind) → ReadsTrace bytes answer
reads_trace bytes (Ok trace) law read valid refused = record { read = read; valid = valid; few = law bytes trace read; refused = refused }
reads_trace bytes (Err why) law read valid refused = record { read = tt; valid = tt; few = tt; refused = refused }
