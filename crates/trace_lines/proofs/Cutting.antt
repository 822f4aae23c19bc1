-- Where the first line and the first field of a text end.
use Rattle.std.proofs.Common.{◌≡◌, ℕ, zero, suc, ◌+◌, ◌-◌, ◌<◌, ◌≤◌, Bool, true, false, cond, not, eqb, ltb, leb, List, [], ◌∷◌, length, get_or, take, drop, Option, Some, None, refl, sym, ap, subst, ◌∙◌, arith}
use Rattle.std.specs.Prelude.{All}
use Rattle.std.specs.List.{slice_split, onto_first, filter, list_all, position, position_or_len}
use Rattle.std.specs.Str.Lines.{lines, lines_of_parts, strip_carriage_return}
use Rattle.std.proofs.Math.Seq.{drop-length}
use Rattle.std.proofs.lemmas.Bool.{and_left, leb-true, ltb-true, ltb-false, ne_eqb, not-true, not-false, or_right, true_from_ne_false, true≢false}
use Rattle.std.proofs.lemmas.List.{drop_more, get_or-take, length-take, take_rest}
use Rattle.std.proofs.lemmas.List.Quantifiers.{position-Some}
use Rattle.std.proofs.lemmas.List.Splits.{slice_split_first, slice_split_none, slice_split-cons_yes}
use Rattle.std.proofs.lemmas.List.Sums.{fails_before_first, list_all-from_AllPass, position_or_len_is}
use Rattle.std.proofs.lemmas.Option.{cond_some}
use Rattle.trace_lines.specs.TextLines.{fields_of, is_allowed, is_field, is_blank, is_plain, is_skipped}

-- ---- the first place that passes

-- the first place is this one
place_is : (p : ℕ → Bool) (xs : List ℕ) (i : ℕ) → position p xs ≡ Some i → (position_or_len p xs ≡ i) × (position_or_len p xs < length xs)
place_is p xs i e = let g = cond_some (ltb (position_or_len p xs) (length xs)) (position_or_len p xs) i e in (g.1, ltb-true _ _ g.0)

-- no place passes before the end
none_before : (p : ℕ → Bool) (xs : List ℕ) → position p xs ≡ None → length xs ≤ position_or_len p xs
none_before p xs e = ltb-false _ _ (none_tested (ltb (position_or_len p xs) (length xs)) (position_or_len p xs) e) where
  none_tested : (b : Bool) (n : ℕ) → cond b (Some n) None ≡ None → b ≡ false
  none_tested true n g = absurd cc
  none_tested false n g = refl

-- none passes
none_passes : (p : ℕ → Bool) (xs : List ℕ) → position p xs ≡ None → All (λ x. p x ≡ false) xs
none_passes p xs e = λ k d lt. fails_before_first p xs k d (omega (arith, none_before p xs e))

split_at_place : (p : ℕ → Bool) (xs : List ℕ) (i : ℕ) → position p xs ≡ Some i → slice_split p xs ≡ take i xs ∷ slice_split p (drop (i + 1) xs)
split_at_place p xs i e =
    let g = place_is p xs i e in
    let P : ℕ → Type 0 = λ k. slice_split p xs ≡ take k xs ∷ slice_split p (drop (k + 1) xs) in
    subst P g.0 (slice_split_first p xs 0 g.1)

-- ---- lines

pub lines_of_more : (x : List ℕ) (parts : List (List ℕ)) → 0 < length parts → lines_of_parts (x ∷ parts) ≡ strip_carriage_return x ∷ lines_of_parts parts
lines_of_more x [] lt = absurd (omega arith)
lines_of_more x (y ∷ more) lt = refl

onto_nonempty : (x : ℕ) (parts : List (List ℕ)) → 0 < length (onto_first x parts)
onto_nonempty x [] = omega arith
onto_nonempty x (part ∷ parts) = omega arith

parts_nonempty : (p : ℕ → Bool) (xs : List ℕ) → 0 < length (slice_split p xs)
parts_nonempty p [] = omega arith
parts_nonempty p (x ∷ xs) = some_part (p x) where
  some_part : (b : Bool) → 0 < length (cond b ([] ∷ slice_split p xs) (onto_first x (slice_split p xs)))
  some_part true = omega arith
  some_part false = onto_nonempty x (slice_split p xs)

pub line_before_end : (text : List ℕ) (i : ℕ) → position (λ b. eqb b 10) text ≡ Some i → lines text ≡ strip_carriage_return (take i text) ∷ lines (drop (i + 1) text)
line_before_end text i e =
    let p : ℕ → Bool = λ b. eqb b 10 in
    ap lines_of_parts (split_at_place p text i e) ∙ lines_of_more (take i text) (slice_split p (drop (i + 1) text)) (parts_nonempty p (drop (i + 1) text))

pub line_without_end : (text : List ℕ) → position (λ b. eqb b 10) text ≡ None → 0 < length text → lines text ≡ text ∷ []
line_without_end text e lt =
    let p : ℕ → Bool = λ b. eqb b 10 in
    ap lines_of_parts (slice_split_none p text (none_passes p text e)) ∙ rw (ne_eqb (length text) 0 (omega arith)) refl

-- ---- a first line whose bytes are plain

plain_low : (b : ℕ) → is_plain b ≡ true → 32 ≤ b
plain_low b is = leb-true 32 b (true_from_ne_false (leb 32 b) (λ no. true≢false (sym is ∙ and_left (leb 32 b) (leb b 126) no)))

plain_allowed : (b : ℕ) → is_plain b ≡ true → is_allowed b ≡ true
plain_allowed b is = or_right (eqb b 9) (is_plain b) is

plain_before : (text : List ℕ) (i : ℕ) → position (λ b. not (is_plain b)) text ≡ Some i → All (λ b. is_plain b ≡ true) (take i text)
plain_before text i e = λ k d lt. plain_at k d (omega (arith, lt, length-take i text)) where
  plain_at : (k d : ℕ) → k < i → is_plain (get_or (take i text) k d) ≡ true
  plain_at k d le = rw (get_or-take i text k d le) (not-false _ ((position-Some (λ b. not (is_plain b)) text i d e).2 k le))

kept_by : (line : List ℕ) → eqb (get_or line (length line - 1) 0) 13 ≡ false → strip_carriage_return line ≡ line
kept_by line is = rw is refl

plain_kept : (line : List ℕ) → All (λ b. is_plain b ≡ true) line → strip_carriage_return line ≡ line
plain_kept [] all = refl
plain_kept (x ∷ xs) all =
    kept_by (x ∷ xs) (ne_eqb (get_or (x ∷ xs) (length (x ∷ xs) - 1) 0) 13 (omega (arith, plain_low (get_or (x ∷ xs) (length (x ∷ xs) - 1) 0) (all (length (x ∷ xs) - 1) 0 (omega arith)))))

pub plain_line : (text : List ℕ) (i : ℕ) → position (λ b. not (is_plain b)) text ≡ Some i → get_or text i 0 ≡ 10 → lines text ≡ take i text ∷ lines (drop (i + 1) text)
plain_line text i e is =
    let first = position-Some (λ b. not (is_plain b)) text i 0 e in
    let p : ℕ → Bool = λ b. eqb b 10 in
    let place : position_or_len p text ≡ i = position_or_len_is p text i 0 (omega (arith, first.0)) (λ k lt. ne_eqb (get_or text k 0) 10 (omega (arith, plain_low (get_or text k 0) (not-false _ (first.2 k lt))))) (λ within. rw is refl) in
    let P : ℕ → Type 0 = λ k. slice_split p text ≡ take k text ∷ slice_split p (drop (k + 1) text) in
    let parts : P i = subst P place (slice_split_first p text 0 (omega (arith, place, first.0))) in
    ap lines_of_parts parts ∙ lines_of_more (take i text) (slice_split p (drop (i + 1) text)) (parts_nonempty p (drop (i + 1) text))
    ∙ ap (λ line. line ∷ lines (drop (i + 1) text)) (plain_kept (take i text) (plain_before text i e))

pub plain_line_allowed : (text : List ℕ) (i : ℕ) → position (λ b. not (is_plain b)) text ≡ Some i → list_all is_allowed (take i text) ≡ true
plain_line_allowed text i e = list_all-from_AllPass is_allowed (take i text) (λ k d lt. plain_allowed (get_or (take i text) k d) (plain_before text i e k d lt))

-- ---- fields

fields_behind_blank : (x : ℕ) (text : List ℕ) → is_blank x ≡ true → fields_of (x ∷ text) ≡ fields_of text
unfolding fields_of
fields_behind_blank x text e = ap (filter is_field) (slice_split-cons_yes is_blank x text e)

fields_behind_blanks : (k : ℕ) (text : List ℕ) → k ≤ length text → ((j : ℕ) → j < k → is_blank (get_or text j 0) ≡ true) → fields_of text ≡ fields_of (drop k text)
fields_behind_blanks zero text le blank = refl
fields_behind_blanks (suc k) [] le blank = absurd (omega arith)
fields_behind_blanks (suc k) (x ∷ text) le blank =
    fields_behind_blank x text (blank 0 (omega arith)) ∙ fields_behind_blanks k text (omega arith) (λ j lt. blank (suc j) (omega arith))

some_taken : (i : ℕ) (text : List ℕ) → 0 < i → i < length text → is_field (take i text) ≡ true
some_taken zero text lt within = absurd (omega arith)
some_taken (suc i) [] lt within = absurd (omega arith)
some_taken (suc i) (x ∷ text) lt within = rw (ne_eqb (length (take (suc i) (x ∷ text))) 0 (omega arith)) refl

field_before_blank : (text : List ℕ) (i : ℕ) → position is_blank text ≡ Some i → 0 < i → fields_of text ≡ take i text ∷ fields_of (drop (i + 1) text)
unfolding fields_of
field_before_blank text i e lt =
    ap (filter is_field) (split_at_place is_blank text i e) ∙ rw (some_taken i text lt (position-Some is_blank text i 0 e).0) refl

field_at_end : (text : List ℕ) → position is_blank text ≡ None → 0 < length text → fields_of text ≡ text ∷ []
unfolding fields_of
field_at_end text e lt = ap (filter is_field) (slice_split_none is_blank text (none_passes is_blank text e)) ∙ rw (ne_eqb (length text) 0 (omega arith)) refl

pub no_fields : (text : List ℕ) → position (λ b. not (is_blank b)) text ≡ None → fields_of text ≡ []
unfolding fields_of
no_fields text e =
    fields_behind_blanks (length text) text (omega arith) (λ j lt. not-false _ (none_passes (λ b. not (is_blank b)) text e j 0 lt))
    ∙ ap fields_of (drop-length text)

-- what stands before the first field is blank, and the field isn't
fields_from : (text : List ℕ) (start : ℕ) → position (λ b. not (is_blank b)) text ≡ Some start → (fields_of text ≡ fields_of (drop start text)) × (is_blank (get_or (drop start text) 0 0) ≡ false) × (0 < length (drop start text))
fields_from text start e =
    let first = position-Some (λ b. not (is_blank b)) text start 0 e in
    let behind : fields_of text ≡ fields_of (drop start text) = fields_behind_blanks start text (omega (arith, first.0)) (λ j lt. not-false _ (first.2 j lt)) in
    let here : drop start text ≡ get_or text start 0 ∷ drop (start + 1) text = drop_more text start 0 first.0 in
    (behind, rw here (not-true _ first.1), rw here (omega arith))

not_first : (text : List ℕ) (i : ℕ) → is_blank (get_or text i 0) ≡ true → is_blank (get_or text 0 0) ≡ false → 0 < i
not_first text zero blank field = absurd cc
not_first text (suc i) blank field = omega arith

field_ends_at : (text : List ℕ) (start at : ℕ) → position (λ b. not (is_blank b)) text ≡ Some start → position is_blank (drop start text) ≡ Some at
    → fields_of text ≡ take at (drop start text) ∷ fields_of (drop (at + 1) (drop start text))
field_ends_at text start at e f =
    let from = fields_from text start e in
    let later : 0 < at = not_first (drop start text) at (position-Some is_blank (drop start text) at 0 f).1 from.1 in
    from.0 ∙ field_before_blank (drop start text) at f later

-- a line is skipped by the byte with which its first field begins
pub skipped_by_first : (text : List ℕ) (start : ℕ) → position (λ b. not (is_blank b)) text ≡ Some start → is_skipped (fields_of text) ≡ eqb (get_or text start 0) 35
skipped_by_first text start e = by_end (position is_blank (drop start text)) refl where
  here : drop start text ≡ get_or text start 0 ∷ drop (start + 1) text
  here = drop_more text start 0 (position-Some (λ b. not (is_blank b)) text start 0 e).0

  begins : get_or (drop start text) 0 0 ≡ get_or text start 0
  begins = rw here refl

  by_end : (found : Option ℕ) → position is_blank (drop start text) ≡ found → is_skipped (fields_of text) ≡ eqb (get_or text start 0) 35
  by_end (Some at) f =
      let from = fields_from text start e in
      let later : 0 < at = not_first (drop start text) at (position-Some is_blank (drop start text) at 0 f).1 from.1 in
      ap is_skipped (field_ends_at text start at e f) ∙ ap (λ b. eqb b 35) (get_or-take at (drop start text) 0 0 later ∙ begins)
  by_end None f =
      let from = fields_from text start e in
      ap is_skipped (from.0 ∙ field_at_end (drop start text) f from.2) ∙ ap (λ b. eqb b 35) begins

-- `part` is what stands from the first field on
pub field_ends : (text part : List ℕ) (start at : ℕ) → part ≡ drop start text → position (λ b. not (is_blank b)) text ≡ Some start → position is_blank part ≡ Some at
    → fields_of text ≡ take at part ∷ fields_of (take (length part - (at + 1)) (drop (at + 1) part))
field_ends text part start at is e f =
    let f' : position is_blank (drop start text) ≡ Some at = ap (position is_blank) (sym is) ∙ f in
    rw (take_rest part (at + 1), is) (field_ends_at text start at e f')

pub field_is_last : (text part : List ℕ) (start : ℕ) → part ≡ drop start text → position (λ b. not (is_blank b)) text ≡ Some start → position is_blank part ≡ None
    → fields_of text ≡ part ∷ fields_of (take (length part - length part) (drop (length part) part))
unfolding fields_of
field_is_last text part start is e f =
    let from = fields_from text start e in
    let f' : position is_blank (drop start text) ≡ None = ap (position is_blank) (sym is) ∙ f in
    rw (take_rest part (length part), drop-length part, is) (from.0 ∙ field_at_end (drop start text) f' from.2)
