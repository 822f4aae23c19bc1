-- What a line says by its word, and the two words of most lines.
use Rattle.std.proofs.Common.{◌≡◌, ℕ, ◌≤◌, get_or, length, drop, List, [], ◌∷◌, true, false, Option, Some, None, Result, Ok, Err, refl, sym, ap, ◌∙◌, arith}
use Rattle.trace_lines.specs.declared.refused.TraceKind.{TraceKind}
use Rattle.trace_lines.specs.declared.refused.TraceKind.TheVariants as kinds
use Rattle.trace_lines.specs.Fields.{◌>>=◌}
use Rattle.trace_lines.specs.TextLines.{fields_of}
use Rattle.trace_text.specs.declared.trace_reading.parsed_line.ParsedLine.{ParsedLine}
use Rattle.trace_text.specs.declared.trace_reading.reader.Stage.{Stage}
use Rattle.trace_text.specs.declared.trace_reading.fields.Word.{Word}
use Rattle.trace_text.specs.declared.trace_reading.fields.Word.TheVariants as words
use Rattle.trace_text.specs.declared.trace_reading.fields.WorkWord.TheVariants as by_self
use Rattle.trace_text.specs.declared.trace_reading.fields.ZoneWord.TheVariants as in_zone
use Rattle.trace_text.specs.declared.trace.Version.{Version}
use Rattle.trace_text.specs.TraceLine.{is_known, known, may_follow, placed, parsed_by, says, word_named, word_or_wrong}
use Rattle.trace_text.specs.TraceWord.{word_from}

-- ---- the word, and then what is behind it

abbrev behind : Version → Stage → ℕ → Word × List (List ℕ) → Result ParsedLine TraceKind
behind version stage workers x = do
  is ← known (is_known version x.0)
  fits ← placed (may_follow stage x.0)
  parsed_by workers x.0 x.1

says_is : (version : Version) (stage : Stage) (workers : ℕ) (fields : List (List ℕ)) → says version stage workers fields ≡ (word_from fields >>= behind version stage workers)
says_is version stage workers [] = refl
says_is version stage workers (first ∷ rest) = by_name (word_named first) where
  by_name : (found : Option Word) → (word_or_wrong found >>= (λ word. behind version stage workers (word, rest))) ≡ ((word_or_wrong found >>= (λ word. Ok (word, rest))) >>= behind version stage workers)
  by_name None = refl
  by_name (Some word) = refl

pub says_by_word : (version : Version) (stage : Stage) (workers : ℕ) (fields : List (List ℕ)) (word : Word) (rest : List (List ℕ)) → word_from fields ≡ Ok (word, rest)
    → is_known version word ≡ true → may_follow stage word ≡ true → says version stage workers fields ≡ parsed_by workers word rest
says_by_word version stage workers fields word rest e is fits =
    says_is version stage workers fields ∙ ap (λ r. r >>= behind version stage workers) e ∙ rw (is, fits) refl

pub says_unknown : (version : Version) (stage : Stage) (workers : ℕ) (fields : List (List ℕ)) (word : Word) (rest : List (List ℕ)) → word_from fields ≡ Ok (word, rest)
    → is_known version word ≡ false → says version stage workers fields ≡ Err kinds.Word
says_unknown version stage workers fields word rest e is =
    says_is version stage workers fields ∙ ap (λ r. r >>= behind version stage workers) e ∙ rw is refl

pub says_misplaced : (version : Version) (stage : Stage) (workers : ℕ) (fields : List (List ℕ)) (word : Word) (rest : List (List ℕ)) → word_from fields ≡ Ok (word, rest)
    → is_known version word ≡ true → may_follow stage word ≡ false → says version stage workers fields ≡ Err kinds.Place
says_misplaced version stage workers fields word rest e is fits =
    says_is version stage workers fields ∙ ap (λ r. r >>= behind version stage workers) e ∙ rw (is, fits) refl

pub says_no_word : (version : Version) (stage : Stage) (workers : ℕ) (fields : List (List ℕ)) (why : TraceKind) → word_from fields ≡ Err why
    → says version stage workers fields ≡ Err why
says_no_word version stage workers fields why e =
    says_is version stage workers fields ∙ ap (λ r. r >>= behind version stage workers) e

-- ---- the two words of most lines

begins_5 : (line : List ℕ) (a b c d e : ℕ) → 5 ≤ length line → get_or line 0 0 ≡ a → get_or line 1 0 ≡ b → get_or line 2 0 ≡ c → get_or line 3 0 ≡ d → get_or line 4 0 ≡ e
    → line ≡ a ∷ b ∷ c ∷ d ∷ e ∷ drop 5 line
begins_5 [] a b c d e le is0 is1 is2 is3 is4 = absurd (omega arith)
begins_5 (v ∷ []) a b c d e le is0 is1 is2 is3 is4 = absurd (omega arith)
begins_5 (v ∷ w ∷ []) a b c d e le is0 is1 is2 is3 is4 = absurd (omega arith)
begins_5 (v ∷ w ∷ x ∷ []) a b c d e le is0 is1 is2 is3 is4 = absurd (omega arith)
begins_5 (v ∷ w ∷ x ∷ y ∷ []) a b c d e le is0 is1 is2 is3 is4 = absurd (omega arith)
begins_5 (v ∷ w ∷ x ∷ y ∷ z ∷ rest) a b c d e le is0 is1 is2 is3 is4 = rw (sym is0, sym is1, sym is2, sym is3, sym is4) refl

begins_6 : (line : List ℕ) (a b c d e f : ℕ) → 6 ≤ length line → get_or line 0 0 ≡ a → get_or line 1 0 ≡ b → get_or line 2 0 ≡ c → get_or line 3 0 ≡ d → get_or line 4 0 ≡ e
    → get_or line 5 0 ≡ f → line ≡ a ∷ b ∷ c ∷ d ∷ e ∷ f ∷ drop 6 line
begins_6 [] a b c d e f le is0 is1 is2 is3 is4 is5 = absurd (omega arith)
begins_6 (v ∷ line) a b c d e f le is0 is1 is2 is3 is4 is5 =
    let more : line ≡ b ∷ c ∷ d ∷ e ∷ f ∷ drop 5 line = begins_5 line b c d e f (omega arith) is1 is2 is3 is4 is5 in
    ap (λ tail. v ∷ tail) more ∙ ap (λ head. head ∷ b ∷ c ∷ d ∷ e ∷ f ∷ drop 5 line) is0

free_then : (rest : List ℕ) → word_from (fields_of (102 ∷ 114 ∷ 101 ∷ 101 ∷ 32 ∷ rest)) ≡ Ok (words.Work by_self.Free, fields_of rest)
unfolding fields_of
free_then rest = refl

alloc_then : (rest : List ℕ) → word_from (fields_of (97 ∷ 108 ∷ 108 ∷ 111 ∷ 99 ∷ 32 ∷ rest)) ≡ Ok (words.Zone in_zone.Alloc, fields_of rest)
unfolding fields_of
alloc_then rest = refl

pub free_first : (line : List ℕ) → 5 ≤ length line → get_or line 0 0 ≡ 102 → get_or line 1 0 ≡ 114 → get_or line 2 0 ≡ 101 → get_or line 3 0 ≡ 101 → get_or line 4 0 ≡ 32
    → word_from (fields_of line) ≡ Ok (words.Work by_self.Free, fields_of (drop 5 line))
free_first line le is0 is1 is2 is3 is4 = ap (λ text. word_from (fields_of text)) (begins_5 line 102 114 101 101 32 le is0 is1 is2 is3 is4) ∙ free_then (drop 5 line)

pub alloc_first : (line : List ℕ) → 6 ≤ length line → get_or line 0 0 ≡ 97 → get_or line 1 0 ≡ 108 → get_or line 2 0 ≡ 108 → get_or line 3 0 ≡ 111 → get_or line 4 0 ≡ 99 → get_or line 5 0 ≡ 32
    → word_from (fields_of line) ≡ Ok (words.Zone in_zone.Alloc, fields_of (drop 6 line))
alloc_first line le is0 is1 is2 is3 is4 is5 = ap (λ text. word_from (fields_of text)) (begins_6 line 97 108 108 111 99 32 le is0 is1 is2 is3 is4 is5) ∙ alloc_then (drop 6 line)
