-- No command has a word that begins with `-`.
use Rattle.std.proofs.Common.{◌≡◌, ◌||◌, ◌&&◌, ◌⊎◌, ℕ, Bool, true, false, nat_le, List, [], ◌∷◌, Option, Some, None, Result, Ok, Err, refl, sym, ap, subst, inl, inr, arith, true≢false}
use Rattle.std.proofs.lemmas.Bool.{eqb-true}
use Rattle.std.proofs.lemmas.Fmt.{decimal_is_IsNumeral}
use Rattle.std.specs.Str.Parse.{AllDigits}
use Rattle.std.specs.List.{list_any}
use Rattle.trace_lines.proofs.Numbers.{IsNumber-from_number_of}
use Rattle.trace_lines.specs.Fields.{◌>>=◌, number_in, number_or_wrong, number_within, ranged}
use Rattle.trace_lines.specs.Number.{number_of}
use Rattle.trace_lines.specs.declared.refused.TraceKind.{TraceKind}
use Rattle.trace_lines.specs.declared.refused.TraceKind.TheVariants.{Number}
use Rattle.command_line.specs.Commands.{command_named, command_of, command_with, numbers}
use Rattle.command_line.specs.Reading.{is_option}

pub either : (a b : Bool) → (a || b) ≡ true → (a ≡ true) ⊎ (b ≡ true)
either true b is = inl refl
either false b is = inr is

-- a word that begins with `-` is no number
no_number : (more : List ℕ) (found : Option ℕ) → number_of (45 ∷ more) ≡ found → number_or_wrong found ≡ Err Number
no_number more None is = refl
no_number more (Some n) is =
    let number = IsNumber-from_number_of (45 ∷ more) n is in
    let digits : AllDigits 10 (45 ∷ more) = subst (AllDigits 10) (sym number.digits) (decimal_is_IsNumeral n number.fits).0.1 in
    absurd (omega (arith, digits.0))

wrong : (word : List ℕ) → is_option word ≡ true → number_in word ≡ Err Number
wrong [] is = absurd (true≢false (sym is))
wrong (byte ∷ more) is =
    let P : ℕ → Type 0 = λ b. number_in (b ∷ more) ≡ Err Number in
    subst P (sym (eqb-true byte 45 is)) (no_number more (number_of (45 ∷ more)) refl)

unnamed : (word : List ℕ) → is_option word ≡ true → command_named word ≡ None
unnamed [] is = refl
unnamed (byte ∷ more) is =
    let P : ℕ → Type 0 = λ b. command_named (b ∷ more) ≡ None in
    subst P (sym (eqb-true byte 45 is)) refl

minus_with : (more : List ℕ) (made : Result (ℕ × ℕ × ℕ) TraceKind) → command_with (45 ∷ more) made ≡ None
minus_with more (Ok made) = refl
minus_with more (Err why) = refl

no_word : (word : List ℕ) (made : Result (ℕ × ℕ × ℕ) TraceKind) → is_option word ≡ true → command_with word made ≡ None
no_word [] made is = absurd (true≢false (sym is))
no_word (byte ∷ more) made is =
    let P : ℕ → Type 0 = λ b. command_with (b ∷ more) made ≡ None in
    subst P (sym (eqb-true byte 45 is)) (minus_with more made)

-- nothing comes of a number where nothing comes of what stands behind it
behind : {A : Type 0} (word : List ℕ) (read : Result A TraceKind) (next : A → Result (ℕ × ℕ × ℕ) TraceKind) → ((x : A) → command_with word (next x) ≡ None) → command_with word (read >>= next) ≡ None
behind word (Ok x) next none = none x
behind word (Err why) next none = refl

no_numbers : (word seed workers ops : List ℕ) → (is_option seed || (is_option workers || is_option ops)) ≡ true → command_with word (numbers seed workers ops) ≡ None
no_numbers word seed workers ops any = elim (either (is_option seed) _ any) [
  | inl is ↦ ap (λ (read : Result ℕ TraceKind). command_with word (read >>= (λ s. number_within 1 16 workers >>= (λ w. number_within 1 50000 ops >>= (λ o. Ok (s, w, o)))))) (wrong seed is)
  | inr more ↦ behind word (number_in seed) _ (λ s. elim (either (is_option workers) _ more) [
    | inl is ↦ ap (λ (read : Result ℕ TraceKind). command_with word ((read >>= (λ n. ranged (nat_le 1 n && nat_le n 16) n)) >>= (λ w. number_within 1 50000 ops >>= (λ o. Ok (s, w, o))))) (wrong workers is)
    | inr is ↦ behind word (number_within 1 16 workers) _ (λ w. ap (λ (read : Result ℕ TraceKind). command_with word ((read >>= (λ n. ranged (nat_le 1 n && nat_le n 50000) n)) >>= (λ o. Ok (s, w, o)))) (wrong ops is))
  ])
]

one_less : (a b c : Bool) → (a || (b || (c || false))) ≡ true → (a || (b || c)) ≡ true
one_less true b c is = refl
one_less false true c is = refl
one_less false false true is = refl
one_less false false false is = is

pub none_with_option : (words : List (List ℕ)) → list_any is_option words ≡ true → command_of words ≡ None
none_with_option [] is = refl
none_with_option (word ∷ []) is = elim (either (is_option word) false is) [
  | inl option ↦ unnamed word option
  | inr never ↦ absurd (true≢false (sym never))
]
none_with_option (a ∷ b ∷ []) is = refl
none_with_option (a ∷ b ∷ c ∷ []) is = refl
none_with_option (word ∷ seed ∷ workers ∷ ops ∷ []) is = elim (either (is_option word) _ is) [
  | inl option ↦ no_word word (numbers seed workers ops) option
  | inr more ↦ no_numbers word seed workers ops (one_less (is_option seed) (is_option workers) (is_option ops) more)
]
none_with_option (a ∷ b ∷ c ∷ d ∷ e ∷ more) is = refl
