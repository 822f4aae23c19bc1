-- The number rule: what `parse` of std reads, but for a plus and leading zeros.
use Rattle.std.proofs.Common.{◌≡◌, ◌≢◌, ℕ, ◌^◌, ◌<◌, ◌≤◌, List, [], ◌∷◌, length, get_or, Option, Some, None, ltb, true, Result, Ok, Err, refl, sym, ap, subst, ◌∙◌, inl, inr, arith}
use Rattle.std.specs.Prelude.{◌&&◌, IfSome, IfNone}
use Rattle.std.specs.Fmt.{decimal}
use Rattle.std.specs.Result.{result_ok}
use Rattle.std.specs.Str.{IsUtf8, bytes_eq}
use Rattle.std.specs.Str.Parse.{AllDigits, digits_value, ParsesUnsigned}
use Rattle.std.proofs.lemmas.Bool.{cases_lt, ltb-true, lt-ltb, and_parts}
use Rattle.std.proofs.lemmas.Option.{cond_some}
use Rattle.std.proofs.lemmas.Slice.Eq.{bytes_eq-Decides}
use Rattle.std.proofs.lemmas.Fmt.{decimal_is_IsNumeral, decimal_digit, decimal_nonempty, first_decimal, parse-decimal, decimal-digits_value, IsAscii-decimal}
use Rattle.std.proofs.lemmas.Str.{IsUtf8-from_ascii}
use Rattle.std.proofs.lemmas.Str.Parse.{IsNumeralModel, numerals_by_value, tells_digits, parse_plain}
use Rattle.trace_lines.specs.Number.{IsNumber, number_of}

pub own : IsNumeralModel (AllDigits 10) (digits_value 10)
own = numerals_by_value (AllDigits 10) tells_digits

-- how the text of a number begins
pub record BeginsAsNumber (text : List ℕ) : Type 0 where
  pub nonempty : 0 < length text
  pub first : 48 ≤ get_or text 0 0
  pub zero_alone : get_or text 0 0 ≡ 48 → length text ≡ 1

decimal_begins : (n : ℕ) → n < 2 ^ 64 → BeginsAsNumber (decimal n)
decimal_begins n lt =
    elim (cases_lt 0 n) [
      | inl more ↦
          let first : 48 < get_or (decimal n) 0 0 = first_decimal n more lt in
          record { nonempty = decimal_nonempty n lt; first = omega arith; zero_alone = λ e. absurd (omega arith) }
      | inr none ↦
          let none' : n ≡ 0 = omega arith in
          let alone : decimal n ≡ 48 ∷ [] = ap decimal none' ∙ decimal_digit 0 (omega arith) in
          rw alone (record { nonempty = omega arith; first = omega arith; zero_alone = λ e. refl })
    ]

pub number_begins : (text : List ℕ) (n : ℕ) → IsNumber text n → BeginsAsNumber text
number_begins text n h = rw h.digits (decimal_begins n h.fits)

pub number_is_utf8 : (text : List ℕ) (n : ℕ) → IsNumber text n → IsUtf8 text
number_is_utf8 text n h = rw h.digits (IsUtf8-from_ascii (decimal n) (IsAscii-decimal n h.fits))

-- a text without a plus and without a leading zero is the number that `parse` read of it
pub parsed_is_number : {E : Type 0} (text parsed : List ℕ) (r : Result ℕ E) → parsed ≡ text → ParsesUnsigned 64 10 parsed r → get_or text 0 0 ≢ 43 → (get_or text 0 0 ≡ 48 → length text ≡ 1)
    → IfSome (result_ok r) (IsNumber text)
parsed_is_number {E} text parsed (Ok n) same read plain alone =
    let h : ParsesUnsigned {E = E} 64 10 text (Ok n) = let Q : List ℕ → Type 0 = λ t. ParsesUnsigned {E = E} 64 10 t (Ok n) in subst Q same read in
    let p = parse_plain own {E = E} 64 text (Ok n) h plain in
    let made : decimal (digits_value 10 text) ≡ text = decimal-digits_value own text p.0.0 p.0.1 alone p.0.2 in
    let is : IsNumber text (digits_value 10 text) = record { digits = sym made; fits = p.0.2 } in
    let P : ℕ → Type 0 = λ k. IsNumber text k in
    subst P (sym p.1) is
parsed_is_number text parsed (Err e) same read plain alone = tt

-- what `parse` doesn't read is no number
pub number_is_parsed : {E : Type 0} (text parsed : List ℕ) (r : Result ℕ E) → parsed ≡ text → ParsesUnsigned 64 10 parsed r → IfNone (result_ok r) ((n : ℕ) → IsNumber text n → ⊥)
number_is_parsed text parsed (Ok n) same read = tt
number_is_parsed {E} text parsed (Err e) same read = λ n is.
    let again : ◌≡◌ {A = Result ℕ E} (Err e) (Ok n) = parse-decimal 64 n parsed (Err e) is.fits is.fits (same ∙ is.digits) read in cc

-- ---- the number as a function of its text

pub IsNumber-from_number_of : (text : List ℕ) (n : ℕ) → number_of text ≡ Some n → IsNumber text n
unfolding number_of
IsNumber-from_number_of text n e =
    let value : ℕ = digits_value 10 text in
    let g = cond_some (ltb value (2 ^ 64) && bytes_eq text (decimal value)) value n e in
    let both = and_parts (ltb value (2 ^ 64)) (bytes_eq text (decimal value)) g.0 in
    let P : ℕ → Type 0 = λ k. IsNumber text k in
    subst P g.1 (record { digits = (bytes_eq-Decides text (decimal value)).0 both.1; fits = ltb-true value (2 ^ 64) both.0 })

pub number_of_again : (text : List ℕ) (n : ℕ) → IsNumber text n → number_of text ≡ Some n
unfolding number_of
number_of_again text n is =
    let value : digits_value 10 text ≡ n = ap (λ (t : List ℕ). digits_value 10 t) is.digits ∙ (decimal_is_IsNumeral n is.fits).1 in
    let same : bytes_eq text (decimal n) ≡ true = (bytes_eq-Decides text (decimal n)).1 is.digits in
    rw (value, lt-ltb n (2 ^ 64) is.fits, same) refl

not_some : (o : Option ℕ) → ((x : ℕ) → o ≡ Some x → ⊥) → o ≡ None
not_some (Some x) h = absurd (h x refl)
not_some None h = refl

-- what reads every number, and nothing else, reads as `number_of` does
pub number_of_is : (text : List ℕ) (r : Option ℕ) → IfSome r (IsNumber text) → IfNone r ((n : ℕ) → IsNumber text n → ⊥) → number_of text ≡ r
number_of_is text (Some n) is none = number_of_again text n is
number_of_is text None some none = not_some (number_of text) (λ n e. none n (IsNumber-from_number_of text n e))
