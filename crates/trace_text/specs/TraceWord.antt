-- The word with which a line of a trace begins, and the fields behind it (own).
use Rattle.std.specs.Prelude.{ℕ, List, [], ◌∷◌, Result, Ok, Err}
use Rattle.trace_lines.specs.declared.refused.TraceKind.{TraceKind}
use Rattle.trace_lines.specs.declared.refused.TraceKind.TheVariants as kinds
use Rattle.trace_lines.specs.Fields.{◌>>=◌}
use Rattle.trace_text.specs.declared.trace_reading.fields.Word.{Word}
use Rattle.trace_text.specs.TraceLine.{word_named, word_or_wrong}

abbrev pub word_from : List (List ℕ) → Result (Word × List (List ℕ)) TraceKind
word_from [] = Err kinds.Word
word_from (first ∷ rest) = do
  word ← word_or_wrong (word_named first)
  Ok (word, rest)
