-- How words hold a set of places: bit i of word k says whether place 64 * k + i is a member.
use lib.Lanes.{mask_l}
use Rattle.std.specs.Prelude.{◌≡◌, ℕ, zero, suc, ◌^◌, ◌<◌, Bool, ◌==◌, nat_lt, List, [], ◌∷◌, ◌++◌, map, take, drop, length, slice_index_or}
use Rattle.std.specs.Int.{bit_at}
use Rattle.std.specs.List.{range_with_len}

-- whether a bit of the word is set
abbrev pub is_set : ℕ → ℕ → Bool
is_set word i = bit_at word i == 1

-- the low bits of a word, as truth values
unfoldable pub word_places : ℕ → ℕ → List Bool
word_places width word = map (is_set word) (range_with_len 0 width)

-- the places of a list of words
unfoldable pub places_of : List ℕ → List Bool
places_of [] = []
places_of (word ∷ words) = word_places 64 word ++ places_of words

-- four words
pub record AreWords (words : List ℕ) : Type 0 where
  pub four : length words ≡ 4
  pub fit : (k : ℕ) → slice_index_or words k 0 < 2 ^ 64

-- sixteen words, and one more that sums them up: its bit k says whether word k has a bit
pub record AreSummed (summary : ℕ) (words : List ℕ) : Type 0 where
  pub sixteen : length words ≡ 16
  pub fit : (k : ℕ) → slice_index_or words k 0 < 2 ^ 64
  pub summed : (k : ℕ) → is_set summary k ≡ nat_lt 0 (slice_index_or words k 0)

-- the words that hold these places, so many of them
unfoldable pub words_of : ℕ → List Bool → List ℕ
words_of zero places = []
words_of (suc n) places = mask_l (take 64 places) ∷ words_of n (drop 64 places)
