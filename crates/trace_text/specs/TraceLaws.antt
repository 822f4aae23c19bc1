-- The laws of traces and their texts (own).
use Rattle.std.specs.Prelude.{ℕ, ◌≡◌, ◌≤◌, List, length}
use Rattle.trace_text.specs.declared.trace.Trace.{Trace}
use Rattle.trace_text.specs.Grammar.{IsTraceText}
use Rattle.trace_text.specs.Lines.{lines_of}
use Rattle.trace_text.specs.Valid.{IsValid}

-- bytes are a text of one trace at most
abbrev pub TextsAreOfOneTrace : Type 0
TextsAreOfOneTrace = (bytes : List ℕ) (trace other : Trace) → IsTraceText bytes trace → IsTraceText bytes other → trace ≡ other

-- the trace of a text is valid
abbrev pub TextsAreOfValidTraces : Type 0
TextsAreOfValidTraces = (bytes : List ℕ) (trace : Trace) → IsTraceText bytes trace → IsValid trace

-- a trace has no more lines below its header than its text has bytes
abbrev pub TracesAreNoLonger : Type 0
TracesAreNoLonger = (bytes : List ℕ) (trace : Trace) → IsTraceText bytes trace → length (lines_of trace.rounds) ≤ length bytes
