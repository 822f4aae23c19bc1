-- The lines of a right text are told, and the last one is `end`.
use Rattle.std.proofs.Common.{◌≡◌, ℕ, Bool, true, false, List, [], ◌∷◌, length, Option, Some, None, Result, Ok, Err, refl, sym, ap, subst, ◌∙◌, cond}
use Rattle.std.specs.Prelude.{is_some, ◌+◌, not}
use Rattle.std.specs.List.{list_all}
use Rattle.trace_lines.specs.declared.refused.TraceKind.{TraceKind}
use Rattle.trace_lines.specs.declared.refused.TraceKind.TheVariants as kinds
use Rattle.trace_lines.specs.Fields.{wrong}
use Rattle.trace_lines.specs.TextLines.{TextLine, Test, AreRight, IsRightText, fields_of, is_allowed, is_end, is_ended, is_skipped, spoken}
use Rattle.trace_text.specs.declared.trace_reading.parsed_line.ParsedLine.{ParsedLine}
use Rattle.trace_text.specs.declared.trace_reading.reader.Stage.{Stage}
use Rattle.trace_text.specs.declared.trace_reading.reader.Stage.TheVariants as stages
use Rattle.trace_text.specs.declared.trace.Version.{Version}
use Rattle.trace_text.specs.Grammar.{and_parsed, conflict_after, head_wrong, last_stage, or_conflict, parsed_lines, stage_of, tells, trace_test, version_of, version_or_first, workers_of}
use Rattle.trace_text.specs.TraceKnown.{is_last}
use Rattle.trace_text.specs.TraceLine.{says, version_in}
use Rattle.trace_schedule.proofs.Steps.{bound}
use Rattle.trace_text.proofs.TraceSaying.{says_right}
use Rattle.trace_text.proofs.TraceTold.{IsParsed, Told}

-- ---- each line that isn't skipped passes its test behind the earlier ones

abbrev pub Passes : Test → List TextLine → Type 0
Passes test [] = Unit {0}
Passes test (line ∷ before) = (test before line ≡ None) × Passes test before

passes_one : (test : Test) (bad skipped : Bool) (line : TextLine) (before : List TextLine)
    → cond bad (Some kinds.Bytes) (cond skipped None (test before line)) ≡ None → Passes test before → Passes test (cond skipped before (line ∷ before))
passes_one test true skipped line before e p = absurd cc
passes_one test false true line before e p = p
passes_one test false false line before e p = (e, p)

right_passes : (test : Test) (all : List (List ℕ)) → AreRight test all → Passes test (spoken all)
right_passes test [] right = tt
right_passes test (line ∷ earlier) right =
    passes_one test (not (list_all is_allowed line)) (is_skipped (fields_of line)) (record { number = length earlier + 1; fields = fields_of line }) (spoken earlier) right.0 (right_passes test earlier right.1)

pub text_passes : (test : Test) (bytes : List ℕ) (spoke : List TextLine) → IsRightText test bytes spoke → Passes test spoke
text_passes test bytes spoke right =
    let P : List TextLine → Type 0 = λ lines. Passes test lines in
    subst P (sym right.spoke_is) (right_passes test right.all right.right)

-- ---- what a line that passes says

not_wrong : {A : Type 0} (r : Result A TraceKind) → wrong r ≡ None → (x : A) × (r ≡ Ok x)
not_wrong (Ok x) e = (x, refl)
not_wrong (Err why) e = absurd cc

no_conflict : (o : Option TraceKind) (x s : ParsedLine) → or_conflict o x ≡ Ok s → (o ≡ None) × (x ≡ s)
no_conflict None x s e = (refl, cc)
no_conflict (Some why) x s e = absurd cc

not_after : (b : Bool) (o : Option TraceKind) → cond b (Some kinds.After) o ≡ None → o ≡ None
not_after true o e = absurd cc
not_after false o e = e

-- of a line behind others
pub record ParsedBehind (last : TextLine) (before : List TextLine) (line : TextLine) (s : ParsedLine) : Type 0 where
  pub says_it : says (version_of (parsed_lines (last ∷ before))) (last_stage (parsed_lines (last ∷ before))) (workers_of (parsed_lines (last ∷ before))) line.fields ≡ Ok s
  pub fits : conflict_after (parsed_lines (last ∷ before)) s ≡ None
  pub all : parsed_lines (line ∷ last ∷ before) ≡ s ∷ parsed_lines (last ∷ before)

tells_parts : (before : List ParsedLine) (fields : List (List ℕ)) (s : ParsedLine) → tells before fields ≡ Ok s → (says (version_of before) (last_stage before) (workers_of before) fields ≡ Ok s) × (conflict_after before s ≡ None)
tells_parts before fields s e =
    let b = bound (says (version_of before) (last_stage before) (workers_of before) fields) (λ x. or_conflict (conflict_after before x) x) s e in
    let c = no_conflict (conflict_after before b.0) b.0 s b.2 in
    let P : ParsedLine → Type 0 = λ x. (says (version_of before) (last_stage before) (workers_of before) fields ≡ Ok x) × (conflict_after before x ≡ None) in
    subst P c.1 (b.1, c.0)

pub parsed_behind : (last : TextLine) (before : List TextLine) (line : TextLine) → trace_test (last ∷ before) line ≡ None → (s : ParsedLine) × ParsedBehind last before line s
parsed_behind last before line e =
    let earlier : List ParsedLine = parsed_lines (last ∷ before) in
    let told = not_wrong (tells earlier line.fields) (not_after (is_ended (last ∷ before)) (wrong (tells earlier line.fields)) e) in
    let parts = tells_parts earlier line.fields told.0 told.1 in
    (told.0, record { says_it = parts.0; fits = parts.1; all = ap (λ r. and_parsed r earlier) parts.0 })

-- ---- all lines

and_parsed_some : (r : Result ParsedLine TraceKind) (earlier : List ParsedLine) → (earlier ≡ [] → ⊥) → and_parsed r earlier ≡ [] → ⊥
and_parsed_some (Ok s) earlier some e = cc
and_parsed_some (Err why) earlier some e = some e

parsed_lines_some : (line : TextLine) (before : List TextLine) → parsed_lines (line ∷ before) ≡ [] → ⊥
parsed_lines_some line [] e = cc
parsed_lines_some line (last ∷ before) e =
    let earlier : List ParsedLine = parsed_lines (last ∷ before) in
    and_parsed_some (says (version_of earlier) (last_stage earlier) (workers_of earlier) line.fields) earlier (parsed_lines_some last before) e

told_next : (earlier : List ParsedLine) (s : ParsedLine) → (earlier ≡ [] → ⊥) → IsParsed earlier s → conflict_after earlier s ≡ None → Told earlier → Told (s ∷ earlier)
told_next [] s some is fits t = absurd (some refl)
told_next (last ∷ before) s some is fits t = (is, fits, t)

pub passing_told : (lines : List TextLine) → Passes trace_test lines → Told (parsed_lines lines)
passing_told [] p = tt
passing_told (line ∷ []) p = (version_or_first (version_in line.fields), refl)
passing_told (line ∷ last ∷ before) p =
    let b = parsed_behind last before line p.0 in
    let is : IsParsed (parsed_lines (last ∷ before)) b.0 = record { fields = line.fields; says_it = b.1.says_it } in
    let P : List ParsedLine → Type 0 = λ all. Told all in
    subst P (sym b.1.all) (told_next (parsed_lines (last ∷ before)) b.0 (parsed_lines_some last before) is b.1.fits (passing_told (last ∷ before) p.1))

-- ---- the last line

pub end_stage_is : (stage : Stage) → is_last stage ≡ true → stage ≡ stages.End
end_stage_is stages.End e = refl
end_stage_is stages.Start e = absurd cc
end_stage_is stages.Uma e = absurd cc
end_stage_is stages.Workers e = absurd cc
end_stage_is stages.Domains e = absurd cc
end_stage_is stages.Clock e = absurd cc
end_stage_is stages.Detail e = absurd cc
end_stage_is stages.Zones e = absurd cc
end_stage_is stages.Names e = absurd cc
end_stage_is stages.Works e = absurd cc
end_stage_is stages.Between e = absurd cc

-- a line says `end` where it is an `end` line
pub end_is_told : (version : Version) (stage : Stage) (workers : ℕ) (fields : List (List ℕ)) (s : ParsedLine) → says version stage workers fields ≡ Ok s → is_end fields ≡ is_last (stage_of s)
end_is_told version stage workers fields s e = (says_right version stage workers fields s e).ends

pub head_no_end : (fields : List (List ℕ)) → head_wrong (is_some (version_in fields)) ≡ None → is_end fields ≡ false
head_no_end [] e = absurd cc
head_no_end (word ∷ []) e = absurd cc
head_no_end (word ∷ version ∷ rest) e = refl

-- the last line of lines that pass is `end` where the last thing said is
pub ended_is_told : (lines : List TextLine) → Passes trace_test lines → is_ended lines ≡ is_last (last_stage (parsed_lines lines))
ended_is_told [] p = refl
ended_is_told (line ∷ []) p = head_no_end line.fields p.0
ended_is_told (line ∷ last ∷ before) p =
    let b = parsed_behind last before line p.0 in
    let earlier : List ParsedLine = parsed_lines (last ∷ before) in
    end_is_told (version_of earlier) (last_stage earlier) (workers_of earlier) line.fields b.0 b.1.says_it ∙ sym (ap (λ (all : List ParsedLine). is_last (last_stage all)) b.1.all)

pub told : (bytes : List ℕ) (spoke : List TextLine) → IsRightText trace_test bytes spoke → Told (parsed_lines spoke) × (last_stage (parsed_lines spoke) ≡ stages.End)
told bytes spoke right =
    let p : Passes trace_test spoke = text_passes trace_test bytes spoke right in
    (passing_told spoke p, end_stage_is (last_stage (parsed_lines spoke)) (sym (ended_is_told spoke p) ∙ right.ended))
