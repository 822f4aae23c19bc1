-- How many places of a set are members, by its words.
use Rattle.std.proofs.Common.{◌≡◌, ℕ, suc, ◌+◌, ◌^◌, ◌<◌, Bool, List, [], ◌∷◌, map, get_or, cond, sum_by, count_by, refl, sym, ap, ◌∙◌}
use Rattle.std.specs.Int.RustNames.{count_ones}
use Rattle.std.specs.List.{range_with_len}
use Rattle.std.proofs.lemmas.List.Sums.{sum_by-append, sum_by-cons}
use Rattle.std.proofs.lemmas.Simd.{ones-mask_l}
use Rattle.slab_bits.specs.Words.{is_set, word_places, places_of}
use Rattle.slab_bits.specs.Inverse.{mask_of-word}

count-map : {X : Type 0} (p : X → Bool) (xs : List X) → count_by (λ b. b) (map p xs) ≡ count_by p xs
count-map p [] = refl
count-map p (x ∷ xs) = sum_by-cons (λ (b : Bool). cond b 1 0) (p x) (map p xs) ∙ ap (λ n. cond (p x) 1 0 + n) (count-map p xs) ∙ sym (sum_by-cons (λ y. cond (p y) 1 0) x xs)

count_of-word : (width word : ℕ) → word < 2 ^ width → count_by (λ b. b) (word_places width word) ≡ count_ones word
unfolding word_places
count_of-word width word fit =
    count-map (is_set word) (range_with_len 0 width)
    ∙ sym (ones-mask_l (is_set word) (range_with_len 0 width))
    ∙ ap count_ones (mask_of-word width word fit)

-- the members are the bits that are set
pub count_of-words : (words : List ℕ) → ((k : ℕ) → get_or words k 0 < 2 ^ 64) → count_by (λ b. b) (places_of words) ≡ sum_by count_ones words
unfolding places_of
count_of-words [] fit = refl
count_of-words (w ∷ ws) fit =
    sum_by-append (λ (b : Bool). cond b 1 0) (word_places 64 w) (places_of ws)
    ∙ ap (λ n. n + count_by (λ b. b) (places_of ws)) (count_of-word 64 w (fit 0))
    ∙ ap (λ n. count_ones w + n) (count_of-words ws (λ k. fit (suc k)))
    ∙ sym (sum_by-cons count_ones w ws)
