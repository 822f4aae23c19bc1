-- The words of a set follow from its places, so sets that hold the same places have the same words.
use lib.Lanes.{mask_l}
use Rattle.std.specs.Prelude.{◌≡◌, ℕ, zero, suc, ◌^◌, ◌<◌, ◌==◌, Bool, false, List, [], ◌∷◌, length, slice_index_or, cond, refl}
use Rattle.std.specs.Int.{bit_at}
use Rattle.std.proofs.Common.{sym, ap, ap₂, subst, ◌∙◌, zero-add, le_of_suc-le-suc, not-suc-le-zero}
use Rattle.std.proofs.lemmas.List.{take_at, drop_at}
use Rattle.std.proofs.lemmas.List.FromFn.{get_or-map-range_with_len, length-map-range_with_len}
use Rattle.std.proofs.lemmas.Nat.Bits.{same_from_bits_below, bit_at-lt}
use Rattle.std.proofs.lemmas.Simd.{bit_mask_l, mask_l-lt}
use Rattle.slab_bits.specs.Words.{is_set, word_places, places_of, words_of, AreWords}

pub word_at : (width word i : ℕ) → i < width → slice_index_or (word_places width word) i false ≡ is_set word i
unfolding word_places
word_at width word i within = get_or-map-range_with_len (is_set word) 0 width i i false within (zero-add i)

pub length-word_places : (width word : ℕ) → length (word_places width word) ≡ width
unfolding word_places
length-word_places width word = length-map-range_with_len (is_set word) 0 width

bit_of-test : (b : ℕ) → b < 2 → cond (b == 1) 1 0 ≡ b
bit_of-test zero below = refl
bit_of-test (suc zero) below = refl
bit_of-test (suc (suc b)) below = absurd (not-suc-le-zero (le_of_suc-le-suc (le_of_suc-le-suc below)))

-- a word is the number whose bits are its places
pub mask_of-word : (width word : ℕ) → word < 2 ^ width → mask_l (word_places width word) ≡ word
mask_of-word width word fit =
    let Fits : ℕ → Type 0 = λ n. mask_l (word_places width word) < 2 ^ n in
    let below = subst Fits (length-word_places width word) (mask_l-lt (word_places width word)) in
    same_from_bits_below width (mask_l (word_places width word)) word below fit
    (λ i within.
    bit_mask_l (word_places width word) i ∙ ap (λ (b : Bool). cond b 1 0) (word_at width word i within) ∙ bit_of-test (bit_at word i) (bit_at-lt word i))

words_back : (words : List ℕ) → ((k : ℕ) → slice_index_or words k 0 < 2 ^ 64) → words_of (length words) (places_of words) ≡ words
unfolding places_of words_of
words_back [] fit = refl
words_back (w ∷ ws) fit =
    let len = length-word_places 64 w in
    ap₂ (λ (v : ℕ) (vs : List ℕ). v ∷ vs)
    (ap mask_l (take_at (word_places 64 w) (places_of ws) 64 len) ∙ mask_of-word 64 w (fit 0))
    (ap (words_of (length ws)) (drop_at (word_places 64 w) (places_of ws) 64 len) ∙ words_back ws (λ k. fit (suc k)))

pub inside_back : (words : List ℕ) → AreWords words → words_of 4 (places_of words) ≡ words
inside_back words are = ap (λ (n : ℕ). words_of n (places_of words)) (sym are.four) ∙ words_back words are.fit
