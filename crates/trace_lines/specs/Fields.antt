-- The fields behind the first one of a line: how many there are is tested first, and then each from left to right, by all its own
-- tests before the next (own).
use Rattle.std.specs.Prelude.{ℕ, ◌≡◌, List, [], ◌∷◌, Bool, false, ◌&&◌, nat_le, if◌then◌else◌, Option, Some, None, Result, Ok, Err, codes}
use Rattle.std.specs.Str.{bytes_eq}
use Rattle.trace_lines.specs.declared.refused.TraceKind.{TraceKind}
use Rattle.trace_lines.specs.declared.refused.TraceKind.TheVariants.{Fields, Number, Range}
use Rattle.trace_lines.specs.Number.{number_of}

infixl 10 ◌>>=◌
abbrev pub ◌>>=◌ : {A B : Type 0} → Result A TraceKind → (A → Result B TraceKind) → Result B TraceKind
(Ok x) >>= f = f x
(Err kind) >>= f = Err kind

-- what is wrong
abbrev pub wrong : {A : Type 0} → Result A TraceKind → Option TraceKind
wrong (Ok x) = None
wrong (Err kind) = Some kind

-- what a function answered, seen by `view`, is what is read
abbrev pub Reads : {A B : Type 0} → (A → B) → Result A TraceKind → Result B TraceKind → Type 0
Reads view (Ok x) read = read ≡ Ok (view x)
Reads view (Err kind) read = read ≡ Err kind

-- a line that has just its word
abbrev pub no_field : List (List ℕ) → Result Unit TraceKind
no_field [] = Ok tt
no_field more = Err Fields

abbrev pub one_field : List (List ℕ) → Result (List ℕ) TraceKind
one_field (a ∷ []) = Ok a
one_field other = Err Fields

abbrev pub two_fields : List (List ℕ) → Result (List ℕ × List ℕ) TraceKind
two_fields (a ∷ b ∷ []) = Ok (a, b)
two_fields other = Err Fields

abbrev pub three_fields : List (List ℕ) → Result (List ℕ × List ℕ × List ℕ) TraceKind
three_fields (a ∷ b ∷ c ∷ []) = Ok (a, b, c)
three_fields other = Err Fields

abbrev pub four_fields : List (List ℕ) → Result (List ℕ × List ℕ × List ℕ × List ℕ) TraceKind
four_fields (a ∷ b ∷ c ∷ d ∷ []) = Ok (a, b, c, d)
four_fields other = Err Fields

abbrev pub five_fields : List (List ℕ) → Result (List ℕ × List ℕ × List ℕ × List ℕ × List ℕ) TraceKind
five_fields (a ∷ b ∷ c ∷ d ∷ e ∷ []) = Ok (a, b, c, d, e)
five_fields other = Err Fields

-- the number that a field spells
abbrev pub number_or_wrong : Option ℕ → Result ℕ TraceKind
number_or_wrong (Some n) = Ok n
number_or_wrong None = Err Number

abbrev pub number_in : List ℕ → Result ℕ TraceKind
number_in field = number_or_wrong (number_of field)

-- the number, where it is in its range
abbrev pub ranged : Bool → ℕ → Result ℕ TraceKind
ranged within n = if within then Ok n else Err Range

-- a number from `low` to `high`
abbrev pub number_within : ℕ → ℕ → List ℕ → Result ℕ TraceKind
number_within low high field = do
  n ← number_in field
  ranged (nat_le low n && nat_le n high) n

-- a first line says what the text is, and its version: NAME 1
abbrev pub is_head : List ℕ → List (List ℕ) → Bool
is_head name (word ∷ version ∷ []) = bytes_eq word name && bytes_eq version (codes "1")
is_head name other = false
