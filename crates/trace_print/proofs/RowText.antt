-- Rows: a row is the list of the fields of a line. The text of right rows has just their lines, and it is right where each row passes
-- its test.
use Rattle.std.proofs.Common.{◌≡◌, ◌≢◌, ℕ, ◌+◌, ◌-◌, ◌<◌, Bool, true, false, eqb, leb, List, [], ◌∷◌, ◌++◌, length, get_or, take, map, None, refl, sym, ap, ◌∙◌, append_assoc, arith}
use Rattle.std.specs.Prelude.{All, ◌&&◌}
use Rattle.std.specs.Int.{IsInRange}
use Rattle.std.specs.List.{join_with_byte, flat_map, filter, slice_split, list_all, AllByRecursion}
use Rattle.std.specs.Str.Lines.{lines, lines_of_parts, strip_carriage_return}
use Rattle.std.proofs.lemmas.Bool.{le-leb, ne_eqb, and_from, or_from, or_right, cond-false}
use Rattle.std.proofs.lemmas.List.Elements.{All-append, All-cons, All-weaker, recursion_from_All}
use Rattle.std.proofs.lemmas.List.Splits.{slice_split_none, slice_split_at, length-slice_split}
use Rattle.std.proofs.lemmas.List.Sums.{list_all-from_AllPass}
use Rattle.trace_lines.specs.TextLines.{TextLine, Test, IsRightText, AreRight, after_earlier, fields_of, is_allowed, is_blank, is_ended, is_field, is_skipped, spoken, wrong_with}
use Rattle.trace_lines.proofs.Cutting.{lines_of_more}
use Rattle.trace_lines.specs.CanonicalLine.{line}

-- a word: one byte at least, each from `!` to `~`
pub record IsWord (word : List ℕ) : Type 0 where
  pub nonempty : 0 < length word
  pub shown : All (IsInRange 33 126) word

-- a right row: words, of which the first one doesn't begin with `#`
pub record IsRow (row : List (List ℕ)) : Type 0 where
  pub nonempty : 0 < length row
  pub words : All IsWord row
  pub no_comment : get_or (get_or row 0 []) 0 0 ≢ 35

-- ---- the fields of the line of a row

not_blank : (byte : ℕ) → IsInRange 33 126 byte → is_blank byte ≡ false
not_blank byte h = or_from (eqb byte 32) (eqb byte 9) (ne_eqb byte 32 (omega arith)) (ne_eqb byte 9 (omega arith))

without_blank : (word : List ℕ) → IsWord word → All (λ byte. is_blank byte ≡ false) word
without_blank word is = λ k d lt. not_blank (get_or word k d) (is.shown k d lt)

split_words : (x : List ℕ) (xs : List (List ℕ)) → AllByRecursion IsWord (x ∷ xs) → slice_split is_blank (join_with_byte 32 (x ∷ xs)) ≡ x ∷ xs
split_words x [] words = slice_split_none is_blank x (without_blank x words.0)
split_words x (y ∷ xs) words =
    slice_split_at is_blank x 32 (join_with_byte 32 (y ∷ xs)) (without_blank x words.0) refl ∙ ap (λ (r : List (List ℕ)). x ∷ r) (split_words y xs words.1)

words_kept : (row : List (List ℕ)) → AllByRecursion IsWord row → filter is_field row ≡ row
words_kept [] words = refl
words_kept (x ∷ row) words =
    let more : 0 < length x = words.0.nonempty in
    rw (ne_eqb (length x) 0 (omega arith)) (ap (λ (r : List (List ℕ)). x ∷ r) (words_kept row words.1))

pub fields_of_row : (row : List (List ℕ)) → IsRow row → fields_of (join_with_byte 32 row) ≡ row
unfolding fields_of
fields_of_row [] is = absurd (omega (arith, is.nonempty))
fields_of_row (x ∷ xs) is =
    let words = recursion_from_All IsWord (x ∷ xs) is.words in ap (filter is_field) (split_words x xs words) ∙ words_kept (x ∷ xs) words

pub row_is_not_skipped : (row : List (List ℕ)) → IsRow row → is_skipped row ≡ false
row_is_not_skipped [] is = absurd (omega (arith, is.nonempty))
row_is_not_skipped (x ∷ xs) is = ne_eqb (get_or x 0 0) 35 is.no_comment

-- ---- the bytes of the line of a row

word_shown : (word : List ℕ) → IsWord word → All (IsInRange 32 126) word
word_shown word is = All-weaker (IsInRange 33 126) (IsInRange 32 126) (λ byte h. omega arith) word is.shown

words_shown : (x : List ℕ) (xs : List (List ℕ)) → AllByRecursion IsWord (x ∷ xs) → All (IsInRange 32 126) (join_with_byte 32 (x ∷ xs))
words_shown x [] words = word_shown x words.0
words_shown x (y ∷ xs) words =
    All-append (IsInRange 32 126) x (32 ∷ join_with_byte 32 (y ∷ xs)) (word_shown x words.0)
    (All-cons (IsInRange 32 126) 32 (join_with_byte 32 (y ∷ xs)) (omega arith) (words_shown y xs words.1))

pub row_shown : (row : List (List ℕ)) → IsRow row → All (IsInRange 32 126) (join_with_byte 32 row)
row_shown [] is = absurd (omega (arith, is.nonempty))
row_shown (x ∷ xs) is = words_shown x xs (recursion_from_All IsWord (x ∷ xs) is.words)

shown_is_allowed : (byte : ℕ) → IsInRange 32 126 byte → is_allowed byte ≡ true
shown_is_allowed byte h = or_right (eqb byte 9) (leb 32 byte && leb byte 126) (and_from (leb 32 byte) (leb byte 126) (le-leb 32 byte (omega arith)) (le-leb byte 126 (omega arith)))

pub row_is_allowed : (row : List (List ℕ)) → IsRow row → list_all is_allowed (join_with_byte 32 row) ≡ true
row_is_allowed row is =
    let shown = row_shown row is in
    list_all-from_AllPass is_allowed (join_with_byte 32 row) (λ k d lt. shown_is_allowed (get_or (join_with_byte 32 row) k d) (shown k d lt))

-- ---- the lines of rows

line_is_first : (text rest : List ℕ) → All (IsInRange 32 126) text → lines (text ++ 10 ∷ rest) ≡ strip_carriage_return text ∷ lines rest
line_is_first text rest shown =
    let feed : ℕ → Bool = λ byte. eqb byte 10 in
    let none : All (λ byte. feed byte ≡ false) text = λ k d lt. let is : IsInRange 32 126 (get_or text k d) = shown k d lt in ne_eqb (get_or text k d) 10 (omega arith) in
    ap lines_of_parts (slice_split_at feed text 10 rest none refl) ∙ lines_of_more text (slice_split feed rest) (omega (arith, length-slice_split feed rest))

ends_without_return : (text : List ℕ) → All (IsInRange 32 126) text → get_or text (length text - 1) 0 ≢ 13
ends_without_return [] shown = λ e. omega arith
ends_without_return (x ∷ text) shown = let last : IsInRange 32 126 (get_or (x ∷ text) (length (x ∷ text) - 1) 0) = shown (length (x ∷ text) - 1) 0 (omega arith) in λ e. omega arith

nothing_stripped : (text : List ℕ) → All (IsInRange 32 126) text → strip_carriage_return text ≡ text
nothing_stripped text shown =
    cond-false (eqb (get_or text (length text - 1) 0) 13) (take (length text - 1) text) text (ne_eqb (get_or text (length text - 1) 0) 13 (ends_without_return text shown))

lines_of_each : (rows : List (List (List ℕ))) → AllByRecursion IsRow rows → lines (flat_map line rows) ≡ map (join_with_byte 32) rows
lines_of_each [] are = refl
lines_of_each (row ∷ rows) are =
    let text : List ℕ = join_with_byte 32 row in
    let shown : All (IsInRange 32 126) text = row_shown row are.0 in
    ap lines (append_assoc text (10 ∷ []) (flat_map line rows)) ∙ line_is_first text (flat_map line rows) shown
    ∙ ap (λ (t : List ℕ). t ∷ lines (flat_map line rows)) (nothing_stripped text shown)
    ∙ ap (λ (ts : List (List ℕ)). text ∷ ts) (lines_of_each rows are.1)

pub lines_of_rows : (rows : List (List (List ℕ))) → All IsRow rows → lines (flat_map line rows) ≡ map (join_with_byte 32) rows
lines_of_rows rows are = lines_of_each rows (recursion_from_All IsRow rows are)

-- ---- rows as numbered lines, of which the last one comes first

-- the row as the line behind these
abbrev pub behind : List TextLine → List (List ℕ) → TextLine
behind earlier row = record { number = length earlier + 1; fields = row }

-- the rows as lines behind the earlier ones
abbrev pub numbered : List (List (List ℕ)) → List TextLine → List TextLine
numbered [] earlier = earlier
numbered (row ∷ rows) earlier = numbered rows (behind earlier row ∷ earlier)

-- nothing is wrong with these rows behind the earlier lines
abbrev pub PassAll : Test → List (List (List ℕ)) → List TextLine → Type 0
PassAll test [] earlier = Unit {0}
PassAll test (row ∷ rows) earlier = (test earlier (behind earlier row) ≡ None) × PassAll test rows (behind earlier row ∷ earlier)

-- the lines of the rows as they stand in the text, behind the earlier ones
texts_behind : List (List (List ℕ)) → List (List ℕ) → List (List ℕ)
texts_behind [] earlier = earlier
texts_behind (row ∷ rows) earlier = texts_behind rows (join_with_byte 32 row ∷ earlier)

in_order : (rows : List (List (List ℕ))) (earlier : List (List ℕ)) → after_earlier (texts_behind rows earlier) [] ≡ after_earlier earlier (map (join_with_byte 32) rows)
unfolding texts_behind
in_order [] earlier = refl
in_order (row ∷ rows) earlier = in_order rows (join_with_byte 32 row ∷ earlier)

spoken_row : (row : List (List ℕ)) (earlier : List (List ℕ)) (spoke : List TextLine) → IsRow row → spoken earlier ≡ spoke → length earlier ≡ length spoke
    → spoken (join_with_byte 32 row ∷ earlier) ≡ behind spoke row ∷ spoke
spoken_row row earlier spoke is same long = rw (fields_of_row row is, row_is_not_skipped row is, long, same) refl

right_row : (test : Test) (row : List (List ℕ)) (earlier : List (List ℕ)) (spoke : List TextLine) → IsRow row → spoken earlier ≡ spoke → length earlier ≡ length spoke
    → wrong_with test earlier (join_with_byte 32 row) ≡ test spoke (behind spoke row)
right_row test row earlier spoke is same long = rw (row_is_allowed row is, fields_of_row row is, row_is_not_skipped row is, long, same) refl

rows_are_right : (test : Test) (rows : List (List (List ℕ))) (earlier : List (List ℕ)) (spoke : List TextLine) → AllByRecursion IsRow rows → spoken earlier ≡ spoke → length earlier ≡ length spoke
    → AreRight test earlier → PassAll test rows spoke → AreRight test (texts_behind rows earlier)
unfolding texts_behind
rows_are_right test [] earlier spoke are same long right pass = right
rows_are_right test (row ∷ rows) earlier spoke are same long right pass =
    rows_are_right test rows (join_with_byte 32 row ∷ earlier) (behind spoke row ∷ spoke) are.1 (spoken_row row earlier spoke are.0 same long) (omega arith)
    (right_row test row earlier spoke are.0 same long ∙ pass.0, right) pass.1

numbered_is_spoken : (rows : List (List (List ℕ))) (earlier : List (List ℕ)) (spoke : List TextLine) → AllByRecursion IsRow rows → spoken earlier ≡ spoke → length earlier ≡ length spoke
    → numbered rows spoke ≡ spoken (texts_behind rows earlier)
unfolding texts_behind
numbered_is_spoken [] earlier spoke are same long = sym same
numbered_is_spoken (row ∷ rows) earlier spoke are same long =
    numbered_is_spoken rows (join_with_byte 32 row ∷ earlier) (behind spoke row ∷ spoke) are.1 (spoken_row row earlier spoke are.0 same long) (omega arith)

pub right_rows : (test : Test) (rows : List (List (List ℕ))) → All IsRow rows → PassAll test rows [] → is_ended (numbered rows []) ≡ true → IsRightText test (flat_map line rows) (numbered rows [])
right_rows test rows are pass ended =
    let each = recursion_from_All IsRow rows are in
    record {
      all = texts_behind rows [];
      whole = lines_of_rows rows are ∙ sym (in_order rows []);
      right = rows_are_right test rows [] [] each refl refl tt pass;
      spoke_is = numbered_is_spoken rows [] [] each refl refl;
      ended = ended;
    }
