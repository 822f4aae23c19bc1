-- What the words of a set say of its places.
use Rattle.std.proofs.Common.{◌≡◌, ◌≢◌, ℕ, suc, ◌-◌, ◌*◌, ◌/◌, ◌%◌, ◌^◌, ◌<◌, ◌==◌, Bool, true, false, List, [], ◌∷◌, length, get_or, set, arith, refl, sym, ap, inl, inr, ◌∙◌}
use Rattle.std.specs.Int.{bit_not, w64}
use Rattle.std.specs.Int.RustNames.{bit_or, bit_and}
use Rattle.std.proofs.lemmas.Bool.{cases_lt, cases_eq}
use Rattle.std.proofs.lemmas.List.{ext_get_or, get_or_append_left, get_or-append_right, get_or-set_same, get_or-set_other, length-append, length-set}
use Rattle.std.proofs.lemmas.Nat.{or_lt, and_le_l}
use Rattle.std.proofs.lemmas.Nat.Bits.{bit_at-zero, bit_at_set_same, bit_at_set_other, bit_at_clear_same, bit_at_clear_other}
use Rattle.slab_bits.specs.Inverse.{word_at, length-word_places}
use Rattle.slab_bits.specs.Words.{is_set, word_places, places_of, AreWords}

pub length-places_of : (words : List ℕ) → length (places_of words) ≡ 64 * length words
unfolding places_of
length-places_of [] = refl
length-places_of (w ∷ ws) =
    let here = length-word_places 64 w in
    let rest = length-places_of ws in
    let both = length-append (word_places 64 w) (places_of ws) in
    omega arith

-- the words read as their places do
pub place_at : (words : List ℕ) (place : ℕ) → get_or (places_of words) place false ≡ is_set (get_or words (place / 64) 0) (place % 64)
unfolding places_of
place_at [] place = sym (ap (λ (b : ℕ). b == 1) (bit_at-zero (place % 64)))
place_at (w ∷ ws) place =
    let here = length-word_places 64 w in
    elim (cases_lt place 64) [
      | inl below ↦
          let within : place < length (word_places 64 w) = omega arith in
          let first : place / 64 ≡ 0 = omega arith in
          let at : place % 64 ≡ place = omega arith in
          get_or_append_left (word_places 64 w) (places_of ws) false place within ∙ word_at 64 w place below ∙ rw (first, at) refl
      | inr above ↦
          let later : place / 64 ≡ suc ((place - 64) / 64) = omega arith in
          let at : place % 64 ≡ (place - 64) % 64 = omega arith in
          get_or-append_right (word_places 64 w) (places_of ws) 64 place false here above ∙ place_at ws (place - 64) ∙ rw (later, at) refl
    ]

-- a word changed at one bit is the set changed at that place
pub record Changes (word place : ℕ) (b : Bool) (word' : ℕ) : Type 0 where
  pub at : is_set word' (place % 64) ≡ b
  pub others : (i : ℕ) → i < 64 → i ≢ place % 64 → is_set word' i ≡ is_set word i

-- the set with that word reads at a place as the changed set does
changed_at : (words : List ℕ) (place : ℕ) (b : Bool) (word' : ℕ) → place / 64 < length words → Changes (get_or words (place / 64) 0) place b word'
    → is_set (get_or (set words (place / 64) word') (place / 64) 0) (place % 64) ≡ b
changed_at words place b word' within changes = rw (get_or-set_same words (place / 64) word' 0 within) changes.at

changed_elsewhere : (words : List ℕ) (place : ℕ) (b : Bool) (word' : ℕ) → place / 64 < length words → Changes (get_or words (place / 64) 0) place b word'
    → (q : ℕ) → q ≢ place → is_set (get_or (set words (place / 64) word') (q / 64) 0) (q % 64) ≡ is_set (get_or words (q / 64) 0) (q % 64)
changed_elsewhere words place b word' within changes q other =
    elim (cases_eq (q / 64) (place / 64)) [
      | inl word ↦
          let bit : q % 64 ≢ place % 64 = omega arith in
          let small : q % 64 < 64 = omega arith in
          rw (word, get_or-set_same words (place / 64) word' 0 within) (changes.others (q % 64) small bit)
      | inr word ↦ rw (get_or-set_other words (place / 64) (q / 64) word' 0 word) refl
    ]

pub places_of-set : (words : List ℕ) (place : ℕ) (b : Bool) (word' : ℕ) → place / 64 < length words → Changes (get_or words (place / 64) 0) place b word'
    → places_of (set words (place / 64) word') ≡ set (places_of words) place b
places_of-set words place b word' within changes =
    let len = length-places_of words in
    let len_set = length-set words (place / 64) word' in
    let len_new = length-places_of (set words (place / 64) word') in
    let len_old = length-set (places_of words) place b in
    let room : place < length (places_of words) = omega arith in
    ext_get_or false (places_of (set words (place / 64) word')) (set (places_of words) place b) (omega arith)
    (λ q _.
    elim (cases_eq q place) [
      | inl same ↦
          rw same (place_at (set words (place / 64) word') place ∙ changed_at words place b word' within changes ∙ sym (get_or-set_same (places_of words) place b false room))
      | inr other ↦
          place_at (set words (place / 64) word') q
          ∙ changed_elsewhere words place b word' within changes q other
          ∙ sym (place_at words q)
          ∙ sym (get_or-set_other (places_of words) place q b false other)
    ])

pub AreWords-set : (words : List ℕ) → AreWords words → (k word' : ℕ) → k < 4 → word' < 2 ^ 64 → AreWords (set words k word')
AreWords-set words are k word' within fit = record {
  four = length-set words k word' ∙ are.four;
  fit = λ j.
      elim (cases_eq j k) [
        | inl same ↦ let inside : k < length words = omega (arith, are.four) in rw (same, get_or-set_same words k word' 0 inside) fit
        | inr other ↦ rw (get_or-set_other words k j word' 0 other) (are.fit j)
      ];
}

-- the bit of a place set and cleared
pub Changes-set : (word place : ℕ) → Changes word place true (bit_or word (1 * 2 ^ (place % 64) % 2 ^ 64))
Changes-set word place =
    let small : place % 64 < 64 = omega arith in
    record {
      at = ap (λ (b : ℕ). b == 1) (bit_at_set_same w64 word (place % 64) small);
      others = λ i _ other. ap (λ (b : ℕ). b == 1) (bit_at_set_other w64 word (place % 64) small i other);
    }

pub Changes-clear : (word place : ℕ) → Changes word place false (bit_and word (bit_not w64 (1 * 2 ^ (place % 64) % 2 ^ 64)))
Changes-clear word place =
    let small : place % 64 < 64 = omega arith in
    record {
      at = ap (λ (b : ℕ). b == 1) (bit_at_clear_same w64 word (place % 64) small);
      others = λ i below other. ap (λ (b : ℕ). b == 1) (bit_at_clear_other w64 word (place % 64) small i below other);
    }

pub set_fits : (word bit : ℕ) → word < 2 ^ 64 → bit_or word (bit % 2 ^ 64) < 2 ^ 64
set_fits word bit fit = or_lt 64 word (bit % 2 ^ 64) fit (omega arith)

pub clear_fits : (word mask : ℕ) → word < 2 ^ 64 → bit_and word mask < 2 ^ 64
clear_fits word mask fit = let less = and_le_l word mask in omega arith
