-- Digits without a leading zero spell a number by the number rule.
use Rattle.std.proofs.Common.{◌≡◌, ℕ, ◌+◌, ◌*◌, ◌^◌, ◌<◌, List, take, get_or, length, Ok, refl, sym, ap, subst, ◌∙◌, arith}
use Rattle.std.proofs.Math.Seq.{take-length}
use Rattle.std.proofs.lemmas.Fmt.{decimal-digits_value}
use Rattle.std.proofs.lemmas.Int.Digits.{digits_more, digits_value_more}
use Rattle.std.specs.Char.{digit_value}
use Rattle.std.specs.Fmt.{decimal}
use Rattle.std.specs.Str.Parse.{AllDigits, digits_value}
use Rattle.trace_lines.specs.Fields.{number_in}
use Rattle.trace_lines.specs.Number.{IsNumber}
use Rattle.trace_lines.proofs.Numbers.{own, number_of_again}

-- one digit more
pub one_more : (field : List ℕ) (i j number byte digit : ℕ) → i ≡ j → j < length field → AllDigits 10 (take i field) → number ≡ digits_value 10 (take i field) → byte ≡ get_or field j 0
    → (digit_value byte < 10) × (digit ≡ digit_value byte) → AllDigits 10 (take (i + 1) field) × (number * 10 + digit ≡ digits_value 10 (take (i + 1) field))
one_more field i j number byte digit same within all is read h =
    let inside : i < length field = omega arith in
    let at : byte ≡ get_or field i 0 = rw same read in
    (digits_more 10 field i inside all (rw (← at) h.0), rw (digits_value_more 10 field i inside, ← at, ← is, h.1))

-- all bytes of the field are digits
pub digits_number : (field : List ℕ) (number count : ℕ) → AllDigits 10 (take count field) → number ≡ digits_value 10 (take count field) → count ≡ length field → 0 < length field
    → (get_or field 0 0 ≡ 48 → length field ≡ 1) → number < 2 ^ 64 → number_in field ≡ Ok number
digits_number field number count digits value whole some alone fits =
    let all : take count field ≡ field = ap (λ k. take k field) whole ∙ take-length field in
    let digits' : AllDigits 10 field = subst (AllDigits 10) all digits in
    let value' : number ≡ digits_value 10 field = value ∙ ap (digits_value 10) all in
    let fits' : digits_value 10 field < 2 ^ 64 = subst (λ n. n < 2 ^ 64) value' fits in
    let made : decimal (digits_value 10 field) ≡ field = decimal-digits_value own field digits' some alone fits' in
    let is : IsNumber field number = record { digits = sym (ap decimal value' ∙ made); fits = fits } in
    rw (number_of_again field number is) refl
