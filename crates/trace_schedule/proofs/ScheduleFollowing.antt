-- What a line says is what is wrong with it or nothing, and leads from the state before it to the one after it.
use Rattle.std.proofs.Common.{◌≡◌, ℕ, Bool, true, false, cond, List, [], ◌∷◌, Option, Some, None, Result, Ok, Err, refl, sym, ap, ◌∙◌}
use Rattle.std.specs.Prelude.{codes, is_some, ◌||◌, OnOk, IfErr}
use Rattle.std.specs.Str.{bytes_eq}
use Rattle.smr_core.specs.declared.clock_core.ClockConfig.{ClockConfig}
use Rattle.trace_lines.specs.declared.refused.TraceKind.TheVariants as kinds
use Rattle.trace_lines.specs.declared.refused.LineRefused.{LineRefused}
use Rattle.trace_lines.specs.declared.refused.LineRefused.TheVariants as refusals
use Rattle.trace_lines.specs.Fields.{◌>>=◌}
use Rattle.trace_lines.specs.TextLines.{TextLine, is_end, is_ended}
use Rattle.trace_lines.specs.Taking.{ReadsLine}
use Rattle.trace_schedule.specs.declared.reading.reader.ScheduleReader.{ScheduleReader}
use Rattle.trace_schedule.specs.declared.reading.parsed_line.ParsedLine.{ParsedLine}
use Rattle.trace_schedule.specs.declared.reading.parsed_line.ParsedLine.TheVariants as parsed
use Rattle.trace_schedule.specs.declared.reading.word.PairWord.TheVariants as pairs
use Rattle.trace_schedule.specs.declared.reading.word.SeatWord.TheVariants as seats
use Rattle.trace_schedule.specs.declared.reading.word.Word.{Word}
use Rattle.trace_schedule.specs.declared.reading.word.Word.TheVariants as words
use Rattle.trace_schedule.specs.ScheduleGrammar.{version_of, word_named, word_or_wrong, is_known, known, fits_place, placed, clock_in, seat_in, two_numbers_in, parsed_by, says, schedule_test, clock_of, clock_after, seat_turn, pair_turn}
use Rattle.trace_schedule.specs.declared.schedule.Version.{Version}
use Rattle.trace_schedule.specs.ScheduleShown.{Shows, Applies, is_last}
use Rattle.trace_schedule.proofs.Steps.{bound, is_some_value, is_true}

-- ---- the line `end` says that it is the last, and no other does

abbrev is_end_word : Word → Bool
is_end_word words.End = true
is_end_word word = false

abbrev NamesNoEnd : Option Word → Type 0
NamesNoEnd o = (word : Word) → o ≡ Some word → is_end_word word ≡ false

no_end : (b : Bool) (w : Word) (o : Option Word) → is_end_word w ≡ false → NamesNoEnd o → NamesNoEnd (cond b (Some w) o)
no_end true w o e h = λ word is. let same : w ≡ word = cc in ap is_end_word (sym same) ∙ e
no_end false w o e h = h

none_named : NamesNoEnd None
none_named = λ word is. absurd cc

end_named : (b : Bool) (o : Option Word) (word : Word) → NamesNoEnd o → cond b (Some words.End) o ≡ Some word → is_end_word word ≡ b
end_named true o word h is = let same : words.End ≡ word = cc in ap is_end_word (sym same)
end_named false o word h is = h word is

word_is_end : (first : List ℕ) (word : Word) → word_named first ≡ Some word → is_end_word word ≡ bytes_eq first (codes "end")
word_is_end first word is =
    let is_text : List ℕ → Bool = λ text. bytes_eq first text in
    end_named (is_text (codes "end")) _ word
    (no_end (is_text (codes "smr")) words.Smr _ refl (no_end (is_text (codes "clock")) words.Clock _ refl (no_end (is_text (codes "load")) (words.Seat seats.Load) _ refl
    (no_end (is_text (codes "store")) (words.Seat seats.Store) _ refl (no_end (is_text (codes "check")) (words.Seat seats.Check) _ refl (no_end (is_text (codes "exit")) (words.Seat seats.Exit) _ refl
    (no_end (is_text (codes "leave")) (words.Seat seats.Leave) _ refl (no_end (is_text (codes "come")) (words.Seat seats.Come) _ refl
    (no_end (is_text (codes "aread")) (words.Seat seats.Aread) _ refl (no_end (is_text (codes "aload")) (words.Seat seats.Aload) _ refl (no_end (is_text (codes "aswap")) (words.Seat seats.Aswap) _ refl
    (no_end (is_text (codes "pread")) (words.Pair pairs.Pread) _ refl (no_end (is_text (codes "pload")) (words.Seat seats.Pload) _ refl (no_end (is_text (codes "ppres")) (words.Seat seats.Ppres) _ refl (no_end (is_text (codes "pscan")) (words.Seat seats.Pscan) _ refl
    (no_end (is_text (codes "pswap")) (words.Seat seats.Pswap) _ refl (no_end (is_text (codes "note")) (words.Seat seats.Note) _ refl (no_end (is_text (codes "absorb")) (words.Pair pairs.Absorb) _ refl
    (no_end (is_text (codes "enter")) (words.Seat seats.Enter) _ refl (no_end (is_text (codes "advance")) (words.Seat seats.Advance) _ refl (no_end (is_text (codes "poll")) (words.Pair pairs.Poll) _ refl none_named)))))))))))))))))))))
    is

-- what is last of a line with this word
abbrev pub ends_line : Bool → List (List ℕ) → Bool
ends_line word [] = word
ends_line word (field ∷ rest) = false

pub is_end_by : (first : List ℕ) (rest : List (List ℕ)) → is_end (first ∷ rest) ≡ ends_line (bytes_eq first (codes "end")) rest
is_end_by first [] = refl
is_end_by first (field ∷ rest) = refl

pub not_last : (rest : List (List ℕ)) → false ≡ ends_line false rest
not_last [] = refl
not_last (field ∷ rest) = refl

parsed_last : (version : Version) (word : Word) (rest : List (List ℕ)) (x : ParsedLine) → parsed_by version word rest ≡ Ok x → is_last x ≡ ends_line (is_end_word word) rest
parsed_last version words.Smr rest x e = absurd cc
parsed_last version words.Clock rest x e = let b = bound (clock_in rest) (λ config. Ok (parsed.Clock config)) x e in let is : parsed.Clock b.0 ≡ x = cc in ap is_last (sym is) ∙ not_last rest
parsed_last version (words.Seat word) rest x e =
    let b = bound (seat_in rest) (λ seat. Ok (parsed.Does (seat_turn version word seat))) x e in
    let is : parsed.Does (seat_turn version word b.0) ≡ x = cc in ap is_last (sym is) ∙ not_last rest
parsed_last version (words.Pair word) rest x e =
    let b = bound (two_numbers_in rest) (λ (n : ℕ × ℕ). Ok (parsed.Does (pair_turn word n.0 n.1))) x e in
    let is : parsed.Does (pair_turn word b.0.0 b.0.1) ≡ x = cc in ap is_last (sym is) ∙ not_last rest
parsed_last version words.End [] x e = let is : parsed.End ≡ x = cc in ap is_last (sym is)
parsed_last version words.End (field ∷ rest) x e = absurd cc

-- ---- a line taken in

pub says_parts : (version : Version) (clocked : Bool) (first : List ℕ) (rest : List (List ℕ)) (x : ParsedLine) → says version clocked (first ∷ rest) ≡ Ok x
    → (word : Word) × (word_named first ≡ Some word) × (fits_place clocked word ≡ true) × (parsed_by version word rest ≡ Ok x)
says_parts version clocked first rest x e =
    let a = bound (word_or_wrong (word_named first)) (λ word. known (is_known version word) >>= λ is. (placed (fits_place clocked word) >>= λ fits. parsed_by version word rest)) x e in
    let k = bound (known (is_known version a.0)) (λ is. placed (fits_place clocked a.0) >>= λ fits. parsed_by version a.0 rest) x a.2 in
    let b = bound (placed (fits_place clocked a.0)) (λ fits. parsed_by version a.0 rest) x k.2 in
    (a.0, is_some_value (word_named first) kinds.Word a.0 a.1, (is_true (fits_place clocked a.0) tt b.0 kinds.Place b.1).0, b.2)

says_last : (version : Version) (clocked : Bool) (fields : List (List ℕ)) (x : ParsedLine) → says version clocked fields ≡ Ok x → (is_end fields ≡ is_last x) × (is_last x ≡ true → clocked ≡ true)
says_last version clocked [] x e = absurd cc
says_last version clocked (first ∷ rest) x e =
    let p = says_parts version clocked first rest x e in
    let last = parsed_last version p.0 rest x p.3 in (
      is_end_by first rest ∙ ap (λ b. ends_line b rest) (sym (word_is_end first p.0 p.1)) ∙ sym last,
      λ yes'. clocked_by p.0 rest clocked (sym last ∙ yes') p.2,
    ) where
      clocked_by : (word : Word) (rest : List (List ℕ)) (clocked : Bool) → ends_line (is_end_word word) rest ≡ true → fits_place clocked word ≡ true → clocked ≡ true
      clocked_by words.Smr rest clocked l f = absurd cc
      clocked_by words.Clock [] clocked l f = absurd cc
      clocked_by words.Clock (field ∷ rest) clocked l f = absurd cc
      clocked_by (words.Seat word) rest clocked l f = f
      clocked_by (words.Pair word) rest clocked l f = f
      clocked_by words.End rest clocked l f = f

clock_kept : (x : ParsedLine) (clock : Option ClockConfig) → is_last x ≡ true → clock_after (Ok x) clock ≡ clock
clock_kept (parsed.Clock config) clock e = absurd cc
clock_kept (parsed.Does turn) clock e = absurd cc
clock_kept parsed.End clock e = refl

applied : (old new : ScheduleReader) (number : ℕ) (fields : List (List ℕ)) (x : ParsedLine)
    → old.begun ≡ true → old.ended ≡ false → says old.version (is_some old.clock) fields ≡ Ok x → Applies number x old new
    → ReadsLine schedule_test Shows old number fields (Ok tt) new
applied old new number fields x begun ended is applies [] shown = absurd (false_not_true (sym shown.begun ∙ begun)) where
  false_not_true : false ≡ true → ⊥
  false_not_true e = cc
applied old new number fields x begun ended is applies (last ∷ before) shown =
    let line : TextLine = record { number = number; fields = fields } in
    let says_it : says (version_of (last ∷ before)) (is_some (clock_of (last ∷ before))) fields ≡ Ok x =
    sym (ap (λ c. says old.version (is_some c) fields) shown.clock ∙ ap (λ v. says v (is_some (clock_of (last ∷ before))) fields) shown.version) ∙ is in
    let still : is_ended (last ∷ before) ≡ false = sym shown.ended ∙ ended in
    let ends = says_last old.version (is_some old.clock) fields x is in
    let now_ended : new.ended ≡ is_last x = applies.ended ∙ ap (λ b. b || is_last x) ended in (
      rw (still, says_it) refl,
      record {
        begun = applies.begun ∙ begun;
        version = applies.version ∙ shown.version;
        clock = applies.clock ∙ rw (says_it, shown.clock) refl;
        turns = applies.turns ∙ rw (says_it, shown.turns) refl;
        ended = now_ended ∙ sym ends.0;
        clocked = λ last'. ap is_some (applies.clock ∙ clock_kept x old.clock (sym now_ended ∙ last')) ∙ ends.1 (sym now_ended ∙ last');
      },
    )

pub takes : (old new : ScheduleReader) (number : ℕ) (fields : List (List ℕ)) (x : ParsedLine) (r : Result (Unit {0}) LineRefused)
    → old.begun ≡ true → old.ended ≡ false → says old.version (is_some old.clock) fields ≡ Ok x → OnOk r (Applies number x old new) → IfErr r (λ refused. refused ≡ refusals.Memory)
    → ReadsLine schedule_test Shows old number fields r new
takes old new number fields x (Ok done) begun ended is applies memory = applied old new number fields x begun ended is applies
takes old new number fields x (Err refusals.Memory) begun ended is applies memory = tt
takes old new number fields x (Err (refusals.Kind why)) begun ended is applies memory = absurd cc
