-- The least member of a set, by its words.
use Rattle.std.proofs.Common.{◌≡◌, ◌==◌, ℕ, ◌+◌, ◌-◌, ◌*◌, ◌/◌, ◌%◌, ◌^◌, ◌<◌, ◌≤◌, zero, suc, List, [], ◌∷◌, length, get_or, arith, refl, sym, ap, inl, inr, ◌∙◌}
use Rattle.std.specs.Int.{bit_at, w64, trailing_zeros}
use Rattle.std.specs.Int.RustNames.{bit_and}
use Rattle.std.proofs.lemmas.Bool.{cases_lt, cases_eq}
use Rattle.std.proofs.lemmas.Nat.Bits.{bit_at-zero, bit_at-lt, bit_at_and, bit_at-trailing_zeros, bit_at_mask_inside, bit_at_mask_below, ones_shl}
use Rattle.std.proofs.lemmas.List.{get_or_past}
use Rattle.slab_bits.specs.Members.{IsMember, IsNoMember, IsLeastFrom, HasNoneFrom}
use Rattle.slab_bits.specs.Words.{places_of}
use Rattle.slab_bits.proofs.Words.{place_at}

-- a place reads as the bit of its word
pub member : (words : List ℕ) (place : ℕ) → bit_at (get_or words (place / 64) 0) (place % 64) ≡ 1 → IsMember (places_of words) place
member words place set = place_at words place ∙ ap (λ (b : ℕ). b == 1) set

pub no_member : (words : List ℕ) (place : ℕ) → bit_at (get_or words (place / 64) 0) (place % 64) ≡ 0 → IsNoMember (places_of words) place
no_member words place clear = place_at words place ∙ ap (λ (b : ℕ). b == 1) clear

-- the words from one index on have no bit, up to another
abbrev pub AreClear : List ℕ → ℕ → ℕ → Type 0
AreClear words start end = (k : ℕ) → start ≤ k → k < end → get_or words k 0 ≡ 0

pub clear_word : (words : List ℕ) (place : ℕ) → get_or words (place / 64) 0 ≡ 0 → IsNoMember (places_of words) place
clear_word words place clear = no_member words place (rw clear (bit_at-zero (place % 64)))

-- the lowest bit of the first word that isn't clear
pub IsLeastFrom-word : (words : List ℕ) (start index : ℕ) → AreClear words start index → start ≤ index → 0 < get_or words index 0 → get_or words index 0 < 2 ^ 64
    → IsLeastFrom (places_of words) (64 * start) (index * 64 + trailing_zeros w64 (get_or words index 0))
IsLeastFrom-word words start index clear from some fit =
    let lowest = bit_at-trailing_zeros w64 (get_or words index 0) some fit in
    let low = lowest.0 in
    let place = index * 64 + trailing_zeros w64 (get_or words index 0) in
    let word : place / 64 ≡ index = omega (arith, low) in
    let bit : place % 64 ≡ trailing_zeros w64 (get_or words index 0) = omega (arith, low) in
    record {
      within = omega arith;
      member = member words place (rw (word, bit) lowest.1);
      least = λ lower above below.
          elim (cases_eq (lower / 64) index) [
            | inl same ↦ let less : lower % 64 < trailing_zeros w64 (get_or words index 0) = omega arith in no_member words lower (rw same (lowest.2 (lower % 64) less))
            | inr other ↦ clear_word words lower (clear (lower / 64) (omega arith) (omega (arith, low)))
          ];
    }

pub HasNoneFrom-clear : (words : List ℕ) (start : ℕ) → length words ≤ 4 → AreClear words start (length words) → HasNoneFrom (places_of words) (64 * start)
HasNoneFrom-clear words start few clear place above =
    elim (cases_lt (place / 64) (length words)) [
      | inl in_words ↦ clear_word words place (clear (place / 64) (omega arith) in_words)
      | inr past ↦ clear_word words place (get_or_past words (place / 64) 0 past)
    ]

pub HasNoneFrom-past : (words : List ℕ) (from : ℕ) → length words ≤ 4 → 256 ≤ from → HasNoneFrom (places_of words) from
HasNoneFrom-past words from few past place above = clear_word words place (get_or_past words (place / 64) 0 (omega arith))

-- a word without its bits below k
abbrev pub from_bit : ℕ → ℕ → ℕ
from_bit word k = bit_and word ((2 ^ 64 - 1) * 2 ^ k % 2 ^ 64)

kept_bit : (word k i : ℕ) → k ≤ 64 → k ≤ i → i < 64 → bit_at (from_bit word k) i ≡ bit_at word i
kept_bit word k i small above below =
    let bit = bit_at-lt word i in
    bit_at_and word ((2 ^ 64 - 1) * 2 ^ k % 2 ^ 64) i
    ∙ rw (ones_shl 64 k small, bit_at_mask_inside k 64 i above below) (omega arith)

lost_bit : (word k i : ℕ) → k ≤ 64 → i < k → bit_at (from_bit word k) i ≡ 0
lost_bit word k i small below =
    bit_at_and word ((2 ^ 64 - 1) * 2 ^ k % 2 ^ 64) i
    ∙ rw (ones_shl 64 k small, bit_at_mask_below k 64 i below) (omega arith)

-- the lowest bit of the rest of a place's word
pub IsLeastFrom-rest : (words : List ℕ) (from : ℕ) → 0 < from_bit (get_or words (from / 64) 0) (from % 64) → from_bit (get_or words (from / 64) 0) (from % 64) < 2 ^ 64
    → IsLeastFrom (places_of words) from (from / 64 * 64 + trailing_zeros w64 (from_bit (get_or words (from / 64) 0) (from % 64)))
IsLeastFrom-rest words from some fit =
    let word = get_or words (from / 64) 0 in
    let rest = from_bit word (from % 64) in
    let lowest = bit_at-trailing_zeros w64 rest some fit in
    let low = lowest.0 in
    let place = from / 64 * 64 + trailing_zeros w64 rest in
    let small : from % 64 ≤ 64 = omega arith in
    let at : from % 64 ≤ trailing_zeros w64 rest =
    elim (cases_lt (trailing_zeros w64 rest) (from % 64)) [
      | inl below ↦ absurd (let lost = lost_bit word (from % 64) (trailing_zeros w64 rest) small below in let set = lowest.1 in omega arith)
      | inr above ↦ above
    ] in
    let in_word : place / 64 ≡ from / 64 = omega (arith, low) in
    let bit : place % 64 ≡ trailing_zeros w64 rest = omega (arith, low) in
    record {
      within = omega arith;
      member = member words place (rw (in_word, bit) (sym (kept_bit word (from % 64) (trailing_zeros w64 rest) small at low) ∙ lowest.1));
      least = λ lower above below.
          let same : lower / 64 ≡ from / 64 = omega (arith, low) in
          let less : lower % 64 < trailing_zeros w64 rest = omega (arith, low) in
          let kept : from % 64 ≤ lower % 64 = omega arith in
          let fits : lower % 64 < 64 = omega arith in
          no_member words lower (rw same (sym (kept_bit word (from % 64) (lower % 64) small kept fits) ∙ lowest.2 (lower % 64) less));
    }

-- no place of that word is a member where the rest has no bit
clear_rest : (words : List ℕ) (from : ℕ) → from_bit (get_or words (from / 64) 0) (from % 64) ≡ 0 → (place : ℕ) → from ≤ place → place < 64 * (from / 64 + 1) → IsNoMember (places_of words) place
clear_rest words from clear place above below =
    let word = get_or words (from / 64) 0 in
    let same : place / 64 ≡ from / 64 = omega arith in
    let small : from % 64 ≤ 64 = omega arith in
    let kept : from % 64 ≤ place % 64 = omega arith in
    let fits : place % 64 < 64 = omega arith in
    no_member words place (rw same (sym (kept_bit word (from % 64) (place % 64) small kept fits) ∙ rw clear (bit_at-zero (place % 64))))

pub IsLeastFrom-later : (words : List ℕ) (from : ℕ) → from_bit (get_or words (from / 64) 0) (from % 64) ≡ 0 → (place : ℕ)
    → IsLeastFrom (places_of words) (64 * (from / 64 + 1)) place → IsLeastFrom (places_of words) from place
IsLeastFrom-later words from clear place is =
    let after = is.within in
    record {
      within = omega arith;
      member = is.member;
      least = λ lower above below.
          elim (cases_lt lower (64 * (from / 64 + 1))) [
            | inl before ↦ clear_rest words from clear lower above before
            | inr later ↦ is.least lower later below
          ];
    }

pub HasNoneFrom-later : (words : List ℕ) (from : ℕ) → from_bit (get_or words (from / 64) 0) (from % 64) ≡ 0
    → HasNoneFrom (places_of words) (64 * (from / 64 + 1)) → HasNoneFrom (places_of words) from
HasNoneFrom-later words from clear none place above =
    elim (cases_lt place (64 * (from / 64 + 1))) [
      | inl before ↦ clear_rest words from clear place above before
      | inr later ↦ none place later
    ]

pub AreClear-none : AreClear (0 ∷ 0 ∷ 0 ∷ 0 ∷ []) 0 4
AreClear-none zero above below = refl
AreClear-none (suc zero) above below = refl
AreClear-none (suc (suc zero)) above below = refl
AreClear-none (suc (suc (suc zero))) above below = refl
AreClear-none (suc (suc (suc (suc k)))) above below = absurd (omega arith)
