-- What the lines of a right text say, each behind the earlier ones, of which the last one comes first.
use Rattle.std.proofs.Common.{◌≡◌, ℕ, List, [], ◌∷◌, None, Ok}
use Rattle.trace_text.specs.declared.trace_reading.parsed_line.ParsedLine.{ParsedLine}
use Rattle.trace_text.specs.declared.trace_reading.parsed_line.ParsedLine.TheVariants as parsed
use Rattle.trace_text.specs.declared.trace.Version.{Version}
use Rattle.trace_text.specs.Grammar.{conflict_after, last_stage, version_of, workers_of}
use Rattle.trace_text.specs.TraceLine.{says}

-- there is a line that says this behind those
pub record IsParsed (before : List ParsedLine) (s : ParsedLine) : Type 0 where
  pub fields : List (List ℕ)
  pub says_it : says (version_of before) (last_stage before) (workers_of before) fields ≡ Ok s

-- the first line says the version, and each other one is said behind the earlier ones and conflicts with none of them
abbrev pub Told : List ParsedLine → Type 0
Told [] = Unit {0}
Told (s ∷ []) = (version : Version) × (s ≡ parsed.Uma version)
Told (s ∷ last ∷ before) = IsParsed (last ∷ before) s × (conflict_after (last ∷ before) s ≡ None) × Told (last ∷ before)
