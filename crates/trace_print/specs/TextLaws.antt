-- The law of traces and their canonical texts (own).
use Rattle.trace_text.specs.declared.trace.Trace.{Trace}
use Rattle.trace_text.specs.Grammar.{IsTraceText}
use Rattle.trace_text.specs.Valid.{IsValid}
use Rattle.trace_print.specs.CanonicalText.{canonical_text}

-- each valid trace has a text, its canonical one
abbrev pub ValidTracesHaveTexts : Type 0
ValidTracesHaveTexts = (trace : Trace) → IsValid trace → IsTraceText (canonical_text trace) trace
