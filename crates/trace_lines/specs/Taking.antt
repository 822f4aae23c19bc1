-- What a grammar's running state does with a line (own).
use Rattle.std.specs.Prelude.{ℕ, ◌≡◌, ◌+◌, List, ◌∷◌, length, Some, None, Result, Ok, Err}
use Rattle.trace_lines.specs.declared.refused.LineRefused.{LineRefused}
use Rattle.trace_lines.specs.declared.refused.LineRefused.TheVariants as refusals
use Rattle.trace_lines.specs.declared.refused.ParseRefused.{ParseRefused}
use Rattle.trace_lines.specs.declared.refused.ParseRefused.TheVariants as texts
use Rattle.trace_lines.specs.TextLines.{TextLine, Test, spoken, wrong_with, IsRightText}

-- from the state after some lines, the line with this number and these fields leads to the state after it, or its test names this kind
abbrev pub ReadsLine : {S : Type 0} → Test → (S → List TextLine → Type 0) → S → ℕ → List (List ℕ) → Result Unit LineRefused → S → Type 0
ReadsLine test shows old number fields (Ok done) new =
    (earlier : List TextLine) → shows old earlier
    → (test earlier (record { number = number; fields = fields }) ≡ None) × shows new (record { number = number; fields = fields } ∷ earlier)
ReadsLine test shows old number fields (Err (refusals.Kind kind)) new =
    (earlier : List TextLine) → shows old earlier → test earlier (record { number = number; fields = fields }) ≡ Some kind
ReadsLine test shows old number fields (Err refusals.Memory) new = Unit

-- the same of a line as it stands in the text, behind these earlier ones
abbrev pub TakesLine : {S : Type 0} → Test → (S → List TextLine → Type 0) → S → ℕ → List ℕ → Result Unit LineRefused → S → Type 0
TakesLine test shows old number line (Ok done) new =
    (earlier : List (List ℕ)) → number ≡ length earlier + 1 → shows old (spoken earlier)
    → (wrong_with test earlier line ≡ None) × shows new (spoken (line ∷ earlier))
TakesLine test shows old number line (Err (refusals.Kind kind)) new =
    (earlier : List (List ℕ)) → number ≡ length earlier + 1 → shows old (spoken earlier) → wrong_with test earlier line ≡ Some kind
TakesLine test shows old number line (Err refusals.Memory) new = Unit

-- the text is right, and the state is the one after its lines
abbrev pub ShowsText : {S : Type 0} → Test → (S → List TextLine → Type 0) → List ℕ → S → Type 0
ShowsText test shows bytes state = (spoke : List TextLine) × IsRightText test bytes spoke × shows state spoke

-- the refusal of a text whose line of this number is refused
abbrev pub at_line : ℕ → LineRefused → ParseRefused
at_line number (refusals.Kind kind) = texts.Trace (record { line = number; kind = kind })
at_line number refusals.Memory = texts.Memory
