-- What the running state of a trace's reading does with a line by its word (own).
use Rattle.std.specs.Prelude.{ℕ, ◌≡◌, List, false, Result, Ok}
use Rattle.trace_lines.specs.declared.refused.LineRefused.{LineRefused}
use Rattle.trace_lines.specs.Taking.{ReadsLine}
use Rattle.trace_text.specs.declared.trace_reading.reader.TraceReader.{TraceReader}
use Rattle.trace_text.specs.declared.trace_reading.parsed_line.ParsedLine.{ParsedLine}
use Rattle.trace_text.specs.declared.trace_reading.fields.Word.{Word}
use Rattle.trace_text.specs.Grammar.{trace_test}
use Rattle.trace_text.specs.TraceKnown.{Knows, is_start, is_last}
use Rattle.trace_text.specs.TraceLine.{says, parsed_by}

-- each line, behind the first one and before the end, that says this is taken in, or its test names what is wrong with it
abbrev pub TakesParsed : ParsedLine → TraceReader → Result Unit LineRefused → TraceReader → Type 0
TakesParsed parsed old result new =
    (number : ℕ) (fields : List (List ℕ)) → is_start old.stage ≡ false → is_last old.stage ≡ false
    → says old.version old.stage old.workers fields ≡ Ok parsed
    → ReadsLine trace_test Knows old number fields result new

-- each line, behind the first one and before the end, that says what this word and the fields behind it say is taken in, or its test names
-- what is wrong with it
abbrev pub TakesWord : Word → List (List ℕ) → TraceReader → Result Unit LineRefused → TraceReader → Type 0
TakesWord word rest old result new =
    (number : ℕ) (fields : List (List ℕ)) → is_start old.stage ≡ false → is_last old.stage ≡ false
    → says old.version old.stage old.workers fields ≡ parsed_by old.workers word rest
    → ReadsLine trace_test Knows old number fields result new
