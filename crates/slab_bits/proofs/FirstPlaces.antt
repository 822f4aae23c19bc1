-- The words of the places below a number.
use Rattle.std.proofs.Common.{◌≡◌, ℕ, zero, suc, ◌==◌, ◌+◌, ◌-◌, ◌*◌, ◌/◌, ◌%◌, ◌^◌, ◌<◌, ◌≤◌, min, true, false, nat_lt, List, [], ◌∷◌, ◌++◌, length, get_or, replicate, arith, refl, sym, ap, inl, inr, ◌∙◌}
use Rattle.std.proofs.lemmas.Bool.{cases_lt, lt-ltb, le-ltb}
use Rattle.std.proofs.lemmas.List.{ext_get_or, get_or_append_left, get_or-append_right, get_or-replicate, length-append, length-replicate}
use Rattle.std.proofs.lemmas.Nat.Bits.{bit_at_ones, bit_at_ones_above}
use Rattle.slab_bits.specs.Words.{is_set, places_of}
use Rattle.slab_bits.proofs.Words.{place_at, length-places_of}

-- word k of the places below n
abbrev pub first_word : ℕ → ℕ → ℕ
first_word n k = 2 ^ min 64 (n - 64 * k) - 1

abbrev pub first_words : ℕ → List ℕ
first_words n = first_word n 0 ∷ first_word n 1 ∷ first_word n 2 ∷ first_word n 3 ∷ []

word_of_index : (n k : ℕ) → k < 4 → get_or (first_words n) k 0 ≡ first_word n k
word_of_index n zero within = refl
word_of_index n (suc zero) within = refl
word_of_index n (suc (suc zero)) within = refl
word_of_index n (suc (suc (suc zero))) within = refl
word_of_index n (suc (suc (suc (suc k)))) within = absurd (omega arith)

bit_of-first : (n k i : ℕ) → i < 64 → is_set (first_word n k) i ≡ nat_lt (64 * k + i) n
bit_of-first n k i small =
    elim (cases_lt (64 * k + i) n) [
      | inl below ↦
          let within : i < min 64 (n - 64 * k) = omega arith in
          ap (λ (b : ℕ). b == 1) (bit_at_ones (min 64 (n - 64 * k)) i within) ∙ sym (lt-ltb (64 * k + i) n below)
      | inr above ↦
          let past : min 64 (n - 64 * k) ≤ i = omega arith in
          ap (λ (b : ℕ). b == 1) (bit_at_ones_above (min 64 (n - 64 * k)) i past) ∙ sym (le-ltb (64 * k + i) n above)
    ]

listed_at : (n m place : ℕ) → place < n + m → get_or (replicate n true ++ replicate m false) place false ≡ nat_lt place n
listed_at n m place within =
    let len = length-replicate n true in
    elim (cases_lt place n) [
      | inl below ↦
          let inside : place < length (replicate n true) = omega arith in
          get_or_append_left (replicate n true) (replicate m false) false place inside
          ∙ get_or-replicate n place true false below
          ∙ sym (lt-ltb place n below)
      | inr above ↦
          let inside : place - n < m = omega arith in
          get_or-append_right (replicate n true) (replicate m false) n place false len above
          ∙ get_or-replicate m (place - n) false false inside
          ∙ sym (le-ltb place n above)
    ]

pub places_of-first : (n : ℕ) → n ≤ 256 → places_of (first_words n) ≡ replicate n true ++ replicate (256 - n) false
places_of-first n few =
    let words = length-places_of (first_words n) in
    let both = length-append (replicate n true) (replicate (256 - n) false) in
    let one = length-replicate n true in
    let other = length-replicate (256 - n) false in
    ext_get_or false (places_of (first_words n)) (replicate n true ++ replicate (256 - n) false) (omega arith)
    (λ place within.
    let index : place / 64 < 4 = omega arith in
    let bit : place % 64 < 64 = omega arith in
    let split : 64 * (place / 64) + place % 64 ≡ place = omega arith in
    let inside : place < n + (256 - n) = omega arith in
    place_at (first_words n) place
    ∙ ap (λ (w : ℕ). is_set w (place % 64)) (word_of_index n (place / 64) index)
    ∙ bit_of-first n (place / 64) (place % 64) bit
    ∙ ap (λ (p : ℕ). nat_lt p n) split
    ∙ sym (listed_at n (256 - n) place inside))
