-- A text of a trace is a text of no other, and the trace is valid.
use Rattle.std.proofs.Common.{◌≡◌, ℕ, List, refl, ap, sym, subst, ◌∙◌}
use Rattle.trace_lines.specs.Taking.{ShowsText}
use Rattle.trace_lines.specs.TextLines.{TextLine}
use Rattle.trace_lines.proofs.OneVerdict.{one_right_reading}
use Rattle.trace_text.specs.declared.trace.Trace.{Trace}
use Rattle.trace_text.specs.declared.trace_reading.parsed_line.ParsedLine.{ParsedLine}
use Rattle.trace_text.specs.Grammar.{IsTraceText, entries_of, head_of, parsed_lines, trace_of, trace_test, version_of, workers_of}
use Rattle.trace_text.specs.TraceLaws.{TextsAreOfOneTrace, TextsAreOfValidTraces}
use Rattle.trace_text.specs.declared.trace_reading.reader.TraceReader.{TraceReader}
use Rattle.trace_text.specs.TraceKnown.{Knows, KnowsParsed, trace_by}
use Rattle.trace_text.specs.Valid.{IsValid}
use Rattle.trace_text.proofs.TraceEntries.{entries_fit, entries_known, betweens_stand, lines_fit}
use Rattle.trace_text.proofs.TraceHead.{head_fits}
use Rattle.trace_text.proofs.TraceOrder.{last_round, lines_known, lines_still_fit, rounds_fit}
use Rattle.trace_text.proofs.TraceSpoken.{told}

pub one_trace : TextsAreOfOneTrace
one_trace bytes trace other x y =
    let same : x.spoke ≡ y.spoke = one_right_reading trace_test bytes x.spoke y.spoke x.right y.right in
    x.trace_is ∙ (ap (λ (spoke : List TextLine). trace_of (parsed_lines spoke)) same ∙ sym y.trace_is)

pub valid_trace : TextsAreOfValidTraces
valid_trace bytes trace text =
    let before : List ParsedLine = parsed_lines text.spoke in
    let all = told bytes text.spoke text.right in
    let fit = entries_fit before all.0 in
    let lines = lines_still_fit (head_of before) (entries_of before) fit (betweens_stand before all.0) (lines_fit before all.0) in
    let P : Trace → Type 0 = λ t. IsValid t in
    subst P (sym text.trace_is) (record {
      head = head_fits before all.0 all.1;
      rounds = rounds_fit (head_of before) (entries_of before) fit;
      last = last_round (workers_of before) (entries_of before);
      lines = lines;
      known = lines_known (version_of before) (workers_of before) (entries_of before) (entries_known before all.0);
    })

-- the state after the lines of a right text is that of the text's trace
trace_same : (reader : TraceReader) (before : List ParsedLine) → KnowsParsed reader before → trace_by reader ≡ trace_of before
trace_same reader before k = rw (k.version, k.workers, k.domains, k.clock, k.detail, k.zones, k.names, k.entries) refl

pub read_trace : (bytes : List ℕ) (reader : TraceReader) (trace : Trace) → ShowsText trace_test Knows bytes reader → trace ≡ trace_by reader → IsTraceText bytes trace
read_trace bytes reader trace shown is = record { spoke = shown.0; right = shown.1; trace_is = is ∙ trace_same reader (parsed_lines shown.0) shown.2.parsed }
