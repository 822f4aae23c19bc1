-- The lines of a text (own). A line ends at LF; the last LF may be missing, and one CR before LF is dropped. Fields are
-- separated by spaces and tabs. A line without a field, or whose first field begins with `#`, is skipped, but is counted.
use Rattle.std.specs.Prelude.{ℕ, ◌≡◌, ◌+◌, ◌⊎◌, List, [], ◌∷◌, length, Bool, true, false, ◌&&◌, ◌||◌, ◌==◌, not, if◌then◌else◌, nat_le, Option, Some, None, codes, slice_index}
use Rattle.std.specs.List.{slice_split, filter, list_all}
use Rattle.std.specs.Str.{bytes_eq}
use Rattle.std.specs.Str.Lines.{lines}
use Rattle.trace_lines.specs.declared.refused.TraceKind.{TraceKind}
use Rattle.trace_lines.specs.declared.refused.TraceKind.TheVariants.{Bytes, NoEnd}

-- a line that isn't skipped: its number from 1, and its fields
pub record TextLine : Type 0 where
  pub number : ℕ
  pub fields : List (List ℕ)

-- from space to tilde
abbrev pub is_plain : ℕ → Bool
is_plain byte = nat_le 32 byte && nat_le byte 126

-- tab, and from space to tilde
abbrev pub is_allowed : ℕ → Bool
is_allowed byte = (byte == 9) || is_plain byte

abbrev pub is_blank : ℕ → Bool
is_blank byte = (byte == 32) || (byte == 9)

abbrev pub is_field : List ℕ → Bool
is_field part = not (length part == 0)

-- what stands between blanks
unfoldable pub fields_of : List ℕ → List (List ℕ)
fields_of line = filter is_field (slice_split is_blank line)

-- of a line with these fields
abbrev pub is_skipped : List (List ℕ) → Bool
is_skipped [] = true
is_skipped (first ∷ rest) = slice_index first 0 == 35

-- ---- earlier lines, of which the last one comes first

-- the earlier lines, and then the others
abbrev pub after_earlier : List (List ℕ) → List (List ℕ) → List (List ℕ)
after_earlier [] others = others
after_earlier (line ∷ earlier) others = after_earlier earlier (line ∷ others)

-- those that aren't skipped
abbrev pub spoken : List (List ℕ) → List TextLine
spoken [] = []
spoken (line ∷ earlier) =
    if is_skipped (fields_of line) then spoken earlier else
    record { number = length earlier + 1; fields = fields_of line } ∷ spoken earlier

-- the last line is `end`
abbrev pub is_end : List (List ℕ) → Bool
is_end [] = false
is_end (word ∷ []) = bytes_eq word (codes "end")
is_end (word ∷ more ∷ rest) = false

abbrev pub is_ended : List TextLine → Bool
is_ended [] = false
is_ended (last ∷ before) = is_end last.fields

-- ---- a grammar is a test of each line that isn't skipped, by the earlier ones: what is wrong with it, or nothing

abbrev pub Test : Type 0
Test = List TextLine → TextLine → Option TraceKind

-- what is wrong with a line, whose bytes are tested first
abbrev pub wrong_with : Test → List (List ℕ) → List ℕ → Option TraceKind
wrong_with test earlier line =
    if not (list_all is_allowed line) then Some Bytes else
    if is_skipped (fields_of line) then None else
    test (spoken earlier) (record { number = length earlier + 1; fields = fields_of line })

-- nothing is wrong with these lines
abbrev pub AreRight : Test → List (List ℕ) → Type 0
AreRight test [] = Unit
AreRight test (line ∷ earlier) = (wrong_with test earlier line ≡ None) × AreRight test earlier

-- all lines of the text are right, and the last one that isn't skipped is `end`
pub record IsRightText (test : Test) (bytes : List ℕ) (spoke : List TextLine) : Type 0 where
  pub all : List (List ℕ)
  pub whole : lines bytes ≡ after_earlier all []
  pub right : AreRight test all
  pub spoke_is : spoke ≡ spoken all
  pub ended : is_ended spoke ≡ true

-- the lines before this one are right, and it isn't
pub record IsFirstBad (test : Test) (bytes : List ℕ) (number : ℕ) (kind : TraceKind) : Type 0 where
  pub earlier : List (List ℕ)
  pub line : List ℕ
  pub others : List (List ℕ)
  pub whole : lines bytes ≡ after_earlier earlier (line ∷ others)
  pub right : AreRight test earlier
  pub number_is : number ≡ length earlier + 1
  pub wrong : wrong_with test earlier line ≡ Some kind

-- all lines are right, and `end` is missing: this is named with the line after the last one
pub record HasNoEnd (test : Test) (bytes : List ℕ) (number : ℕ) (kind : TraceKind) : Type 0 where
  pub all : List (List ℕ)
  pub whole : lines bytes ≡ after_earlier all []
  pub right : AreRight test all
  pub unended : is_ended (spoken all) ≡ false
  pub number_is : number ≡ length all + 1
  pub kind_is : kind ≡ NoEnd

-- the text is refused at the line of this number, for this reason
abbrev pub IsRefusedAt : Test → List ℕ → ℕ → TraceKind → Type 0
IsRefusedAt test bytes number kind = IsFirstBad test bytes number kind ⊎ HasNoEnd test bytes number kind
