-- The canonical text of a valid trace is a text of it.
use Rattle.std.proofs.Common.{◌≡◌, ℕ, Bool, true, false, List, [], ◌∷◌, ◌++◌, Option, Some, None, Ok, refl, sym, ap, ap₂, subst, ◌∙◌, append_assoc, arith}
use Rattle.std.specs.Prelude.{All, codes}
use Rattle.std.specs.List.{slice_split, flat_map}
use Rattle.std.proofs.lemmas.List.{append-nil}
use Rattle.std.proofs.lemmas.Slice.Eq.{bytes_eq-Decides}
use Rattle.std.proofs.lemmas.Bool.{false_from_ne_true}
use Rattle.trace_lines.specs.Fields.{◌>>=◌}
use Rattle.trace_lines.specs.TextLines.{TextLine, IsRightText, is_end, is_ended}
use Rattle.trace_text.specs.declared.trace.Head.{Head}
use Rattle.trace_text.specs.declared.trace.Round.{Round}
use Rattle.trace_text.specs.declared.trace.Trace.{Trace}
use Rattle.trace_text.specs.declared.trace_reading.fields.Entry.{Entry}
use Rattle.trace_text.specs.declared.trace_reading.parsed_line.ParsedLine.{ParsedLine}
use Rattle.trace_text.specs.declared.trace_reading.parsed_line.ParsedLine.TheVariants as parsed
use Rattle.trace_text.specs.declared.trace_reading.reader.Stage.{Stage}
use Rattle.trace_text.specs.declared.trace_reading.reader.Stage.TheVariants as stages
use Rattle.trace_text.specs.declared.trace_reading.fields.HeadWord.TheVariants as heads
use Rattle.trace_text.specs.declared.trace_reading.fields.Word.{Word}
use Rattle.trace_text.specs.declared.trace_reading.fields.Word.TheVariants as words
use Rattle.trace_lines.specs.CanonicalLine.{line}
use Rattle.trace_text.specs.declared.trace.Version.{Version}
use Rattle.trace_text.specs.declared.trace.Version.TheVariants as versions
use Rattle.trace_text.proofs.TraceSaying.{says_right}
use Rattle.trace_text.specs.Grammar.{last_stage, version_after, version_of, version_or_first, workers_of, is_round, rounds_in, parsed_lines, trace_of, trace_test}
use Rattle.trace_text.specs.Lines.{lines_of}
use Rattle.trace_print.specs.TextLaws.{ValidTracesHaveTexts}
use Rattle.trace_text.specs.TraceLine.{is_known, known, may_follow, placed, parsed_by, says, version_in, word_named, word_or_wrong}
use Rattle.trace_text.specs.Valid.{HeadFits, IsValid, LastRoundEnds, RoundFits}
use Rattle.trace_print.proofs.CanonicalRows.{first_row, head_rows, other_rows, rounds_rows, trace_rows}
use Rattle.trace_print.proofs.RoundEntries.{rounds_entries, rounds_rebuilt}
use Rattle.trace_print.proofs.RowFields.{text_is, rows_right}
use Rattle.trace_print.proofs.RowParsed.{parsed_head, parsed_others, parsed_rounds}
use Rattle.trace_print.proofs.RowText.{PassAll, behind as line_behind, numbered, right_rows}
use Rattle.trace_print.proofs.TraceRebuilt.{SaysAll, Stands, Applies, behind, applies_append}
use Rattle.trace_print.proofs.TraceRebuiltHead.{head_step}
use Rattle.trace_print.proofs.TraceRebuiltRounds.{rounds_step, end_step}

-- ---- what all rows say

rounds_applied : (h : Head) (rounds : List Round) (before : List ParsedLine) (earlier : List Entry) → HeadFits h → All (RoundFits h) rounds → LastRoundEnds rounds
    → Stands before h earlier (lines_of rounds) 3 9 → Applies before (rounds_rows h.zones rounds) (parsed_rounds h.zones rounds) h (earlier ++ rounds_entries rounds) [] 3 9
rounds_applied h [] before earlier head fits last stands = absurd last
rounds_applied h (r ∷ rounds) before earlier head fits last stands = rounds_step h r rounds before earlier head fits last stands

-- each row of a valid trace says its line, and behind them stand its header and the lines of its rounds
pub trace_applied : (t : Trace) → IsValid t → Applies (parsed.Uma t.version ∷ []) (other_rows t) (parsed_others t) t.head (rounds_entries t.rounds ++ []) [] 10 10
trace_applied t valid =
    let head = head_step t.version t.head (lines_of t.rounds) valid.head valid.lines valid.known in
    let rounds = rounds_applied t.head t.rounds (behind (parsed_head t.head) (parsed.Uma t.version ∷ [])) [] valid.head valid.rounds valid.last head.stands in
    let last = end_step t.head _ (rounds_entries t.rounds) rounds.stands in
    applies_append head (applies_append rounds last)

-- only the first line says a version
says_no_version : (version : Version) (stage : Stage) (workers : ℕ) (row : List (List ℕ)) (s : ParsedLine) (old : Version) → says version stage workers row ≡ Ok s → version_after s old ≡ old
says_no_version version stage workers row (parsed.Uma other) old e = absurd (let place = (says_right version stage workers row (parsed.Uma other) e).place in omega arith)
says_no_version version stage workers row s old e = refl

version_stays : (before : List ParsedLine) (rows : List (List (List ℕ))) (parsed_rows : List ParsedLine) → SaysAll before rows parsed_rows → version_of (behind parsed_rows before) ≡ version_of before
version_stays before [] [] says_all = refl
version_stays before [] (s ∷ parsed_rows) says_all = absurd says_all
version_stays before (row ∷ rows) [] says_all = absurd says_all
version_stays before (row ∷ rows) (s ∷ parsed_rows) says_all =
    version_stays (s ∷ before) rows parsed_rows says_all.2 ∙ says_no_version (version_of before) (last_stage before) (workers_of before) row s (version_of before) says_all.0

-- what they say gives the trace back
pub trace_rebuilt : (t : Trace) → IsValid t → trace_of (behind (parsed_others t) (parsed.Uma t.version ∷ [])) ≡ t
trace_rebuilt t valid =
    let stands = (trace_applied t valid).stands in
    let before : List ParsedLine = behind (parsed_others t) (parsed.Uma t.version ∷ []) in
    let version : version_of before ≡ t.version = version_stays (parsed.Uma t.version ∷ []) (other_rows t) (parsed_others t) (trace_applied t valid).says_all in
    let made : Head → List Entry → Trace = λ h es. record { version = version_of before; head = h; rounds = rounds_in h.workers (slice_split is_round es) } in
    let with_rounds : List Round → Trace = λ rounds. record { version = version_of before; head = t.head; rounds = rounds } in
    let with_version : Version → Trace = λ v. record { version = v; head = t.head; rounds = t.rounds } in
    ap₂ made stands.head_is (stands.entries_are ∙ append-nil (rounds_entries t.rounds))
    ∙ ap with_rounds (rounds_rebuilt t.head t.rounds valid.rounds valid.last)
    ∙ ap with_version version

-- ---- behind `end` nothing is said

nothing_follows : (word : Word) → may_follow stages.End word ≡ false
nothing_follows (words.Head heads.Uma) = refl
nothing_follows (words.Head heads.Workers) = refl
nothing_follows (words.Head heads.Domains) = refl
nothing_follows (words.Head heads.Clock) = refl
nothing_follows (words.Head heads.Detail) = refl
nothing_follows (words.Head heads.Zone) = refl
nothing_follows (words.Head heads.Second) = refl
nothing_follows (words.Head heads.Names) = refl
nothing_follows (words.Work word) = refl
nothing_follows (words.Zone word) = refl
nothing_follows words.Round = refl
nothing_follows words.Give = refl
nothing_follows words.SetMax = refl
nothing_follows words.End = refl

unplaced_says_nothing : (has : Bool) (workers : ℕ) (word : Word) (rest : List (List ℕ)) (s : ParsedLine)
    → (known has >>= (λ is. placed false >>= (λ fits. parsed_by workers word rest))) ≡ Ok s → ⊥
unplaced_says_nothing true workers word rest s e = cc
unplaced_says_nothing false workers word rest s e = cc

no_word_follows : (version : Version) (o : Option Word) (workers : ℕ) (rest : List (List ℕ)) (s : ParsedLine)
    → (word_or_wrong o >>= (λ (word : Word). known (is_known version word) >>= (λ is. placed (may_follow stages.End word) >>= (λ fits. parsed_by workers word rest)))) ≡ Ok s → ⊥
no_word_follows version None workers rest s e = cc
no_word_follows version (Some word) workers rest s e = let none = rw (nothing_follows word) at e in unplaced_says_nothing (is_known version word) workers word rest s none

nothing_is_parsed : (version : Version) (workers : ℕ) (row : List (List ℕ)) (s : ParsedLine) → says version stages.End workers row ≡ Ok s → ⊥
nothing_is_parsed version workers [] s e = cc
nothing_is_parsed version workers (first ∷ rest) s e = no_word_follows version (word_named first) workers rest s e

not_behind_end : (version : Version) (stage : Stage) (workers : ℕ) (row : List (List ℕ)) (s : ParsedLine) → says version stage workers row ≡ Ok s → stage ≡ stages.End → ⊥
not_behind_end version stage workers row s says_it end =
    nothing_is_parsed version workers row s (subst (λ (g : Stage). says version g workers row ≡ Ok s) end says_it)

-- the row `end` says just that
end_or_place : (fits : Bool) (s : ParsedLine) → (placed fits >>= (λ done. Ok parsed.End)) ≡ Ok s → s ≡ parsed.End
end_or_place true s e = cc
end_or_place false s e = absurd cc

end_is_parsed : (version : Version) (stage : Stage) (workers : ℕ) (row : List (List ℕ)) (s : ParsedLine) → is_end row ≡ true → says version stage workers row ≡ Ok s → s ≡ parsed.End
end_is_parsed version stage workers [] s is e = absurd cc
end_is_parsed version stage workers (word ∷ []) s is e =
    let word_is : word ≡ codes "end" = (bytes_eq-Decides word (codes "end")).0 is in
    end_or_place (may_follow stage words.End) s (subst (λ (w : List ℕ). says version stage workers (w ∷ []) ≡ Ok s) word_is e)
end_is_parsed version stage workers (word ∷ next ∷ more) s is e = absurd cc

-- ---- each row passes its test

-- behind a row that says this
next_parsed_lines : (last : TextLine) (earlier : List TextLine) (row : List (List ℕ)) (s : ParsedLine)
    → says (version_of (parsed_lines (last ∷ earlier))) (last_stage (parsed_lines (last ∷ earlier))) (workers_of (parsed_lines (last ∷ earlier))) row ≡ Ok s
    → parsed_lines (line_behind (last ∷ earlier) row ∷ last ∷ earlier) ≡ s ∷ parsed_lines (last ∷ earlier)
next_parsed_lines last earlier row s says_it = rw says_it refl

-- where the last line is `end`, it was so understood
abbrev KnowsEnd : TextLine → List TextLine → Type 0
KnowsEnd last earlier = is_end last.fields ≡ true → last_stage (parsed_lines (last ∷ earlier)) ≡ stages.End

knows_next : (last : TextLine) (earlier : List TextLine) (row : List (List ℕ)) (s : ParsedLine)
    → says (version_of (parsed_lines (last ∷ earlier))) (last_stage (parsed_lines (last ∷ earlier))) (workers_of (parsed_lines (last ∷ earlier))) row ≡ Ok s → KnowsEnd (line_behind (last ∷ earlier) row) (last ∷ earlier)
knows_next last earlier row s says_it ends =
    let parsed_is : s ≡ parsed.End = end_is_parsed (version_of (parsed_lines (last ∷ earlier))) (last_stage (parsed_lines (last ∷ earlier))) (workers_of (parsed_lines (last ∷ earlier))) row s ends says_it in
    ap (λ (b : List ParsedLine). last_stage b) (next_parsed_lines last earlier row s says_it)
    ∙ ap (λ (x : ParsedLine). last_stage (x ∷ parsed_lines (last ∷ earlier))) parsed_is

row_passes : (last : TextLine) (earlier : List TextLine) (row : List (List ℕ)) (s : ParsedLine) → KnowsEnd last earlier
    → SaysAll (parsed_lines (last ∷ earlier)) (row ∷ []) (s ∷ []) → trace_test (last ∷ earlier) (line_behind (last ∷ earlier) row) ≡ None
row_passes last earlier row s knows says_all =
    let before : List ParsedLine = parsed_lines (last ∷ earlier) in
    let unended : is_end last.fields ≡ false = false_from_ne_true (is_end last.fields) (λ e. not_behind_end (version_of before) (last_stage before) (workers_of before) row s says_all.0 (knows e)) in
    rw (unended, says_all.0, says_all.1) refl

-- the rows pass, and so they are understood
record Understood (rows : List (List (List ℕ))) (parsed_rows : List ParsedLine) (last : TextLine) (earlier : List TextLine) : Type 0 where
  pass : PassAll trace_test rows (last ∷ earlier)
  parsed_are : parsed_lines (numbered rows (last ∷ earlier)) ≡ behind parsed_rows (parsed_lines (last ∷ earlier))

understood : (rows : List (List (List ℕ))) (parsed_rows : List ParsedLine) (last : TextLine) (earlier : List TextLine) → KnowsEnd last earlier
    → SaysAll (parsed_lines (last ∷ earlier)) rows parsed_rows → Understood rows parsed_rows last earlier
understood [] [] last earlier knows says_all = record { pass = tt; parsed_are = refl }
understood [] (s ∷ parsed_rows) last earlier knows says_all = absurd says_all
understood (row ∷ rows) [] last earlier knows says_all = absurd says_all
understood (row ∷ rows) (s ∷ parsed_rows) last earlier knows says_all =
    let next : parsed_lines (line_behind (last ∷ earlier) row ∷ last ∷ earlier) ≡ s ∷ parsed_lines (last ∷ earlier) = next_parsed_lines last earlier row s says_all.0 in
    let then : SaysAll (parsed_lines (line_behind (last ∷ earlier) row ∷ last ∷ earlier)) rows parsed_rows = subst (λ (b : List ParsedLine). SaysAll b rows parsed_rows) (sym next) says_all.2 in
    let more = understood rows parsed_rows (line_behind (last ∷ earlier) row) (last ∷ earlier) (knows_next last earlier row s says_all.0) then in
    record {
      pass = (row_passes last earlier row s knows (says_all.0, says_all.1, tt), more.pass);
      parsed_are = more.parsed_are ∙ ap (behind parsed_rows) next;
    }

-- ---- the text

numbered_append : (rows others : List (List (List ℕ))) (earlier : List TextLine) → numbered (rows ++ others) earlier ≡ numbered others (numbered rows earlier)
numbered_append [] others earlier = refl
numbered_append (row ∷ rows) others earlier = numbered_append rows others (line_behind earlier row ∷ earlier)

ends_with_end : (rows : List (List (List ℕ))) (earlier : List TextLine) → is_ended (numbered (rows ++ (codes "end" ∷ []) ∷ []) earlier) ≡ true
ends_with_end rows earlier = ap (λ (lines : List TextLine). is_ended lines) (numbered_append rows ((codes "end" ∷ []) ∷ []) earlier)

-- the first line says its version
first_says : (version : Version) → version_or_first (version_in (first_row version)) ≡ version
first_says versions.One = refl
first_says versions.Two = refl
first_says versions.Three = refl

first_passes : (version : Version) → trace_test [] (line_behind [] (first_row version)) ≡ None
first_passes versions.One = refl
first_passes versions.Two = refl
first_passes versions.Three = refl

trace_understood : (t : Trace) → IsValid t → Understood (other_rows t) (parsed_others t) (line_behind [] (first_row t.version)) []
trace_understood t valid =
    let P : Version → Type 0 = λ version. SaysAll (parsed.Uma version ∷ []) (other_rows t) (parsed_others t) in
    understood (other_rows t) (parsed_others t) (line_behind [] (first_row t.version)) [] (λ e. absurd cc) (subst P (sym (first_says t.version)) (trace_applied t valid).says_all)

trace_ends : (t : Trace) → is_ended (numbered (trace_rows t) []) ≡ true
trace_ends t =
    let front : List (List (List ℕ)) = head_rows t.head ++ rounds_rows t.head.zones t.rounds in
    let last : List (List (List ℕ)) = (codes "end" ∷ []) ∷ [] in
    let whole : other_rows t ≡ front ++ last = sym (append_assoc (head_rows t.head) (rounds_rows t.head.zones t.rounds) last) in
    ap (λ (rows : List (List (List ℕ))). is_ended (numbered rows (line_behind [] (first_row t.version) ∷ []))) whole ∙ ends_with_end front (line_behind [] (first_row t.version) ∷ [])

-- each valid trace has a text: its canonical one is a text of it
pub valid_has_text : ValidTracesHaveTexts
valid_has_text t valid =
    let spoke : List TextLine = numbered (trace_rows t) [] in
    let known = trace_understood t valid in
    let right : IsRightText trace_test (flat_map line (trace_rows t)) spoke = right_rows trace_test (trace_rows t) (rows_right t valid) (first_passes t.version, known.pass) (trace_ends t) in
    record {
      spoke = spoke;
      right = subst (λ (bytes : List ℕ). IsRightText trace_test bytes spoke) (sym (text_is t)) right;
      trace_is = sym (ap (λ (before : List ParsedLine). trace_of before) known.parsed_are
          ∙ ap (λ (version : Version). trace_of (behind (parsed_others t) (parsed.Uma version ∷ []))) (first_says t.version)
          ∙ trace_rebuilt t valid);
    }
