-- The words of a wide set, and the word that sums them up.
use Rattle.std.proofs.Common.{◌≡◌, ◌≢◌, ◌==◌, ◌+◌, ◌-◌, ◌*◌, ◌/◌, ◌%◌, ◌^◌, ◌<◌, ◌≤◌, ℕ, suc, Bool, true, false, nat_lt, List, length, get_or, set, replicate, arith, refl, sym, ap, inl, inr, ◌∙◌}
use Rattle.std.specs.Int.{bit_at, bit_not, w64, trailing_zeros, leading_zeros}
use Rattle.std.specs.Int.RustNames.{bit_or, bit_and}
use Rattle.std.proofs.Math.Arith.{digits_div}
use Rattle.std.proofs.lemmas.Bool.{cases_lt, cases_eq, lt-ltb, le-ltb, ltb-true}
use Rattle.std.proofs.lemmas.List.{ext_get_or, get_or_past, get_or-replicate, get_or-set_same, get_or-set_other, length-replicate, length-set}
use Rattle.std.proofs.lemmas.Nat.{leading_top}
use Rattle.std.proofs.lemmas.Nat.Bits.{bit_at-zero, bit_at-trailing_zeros, bit_at_above, bit_at_set_same, bit_at_set_other, bit_at_clear_same, bit_at_clear_other}
use Rattle.slab_bits.specs.Members.{HasNoneFrom, IsLeastFrom, IsGreatest}
use Rattle.slab_bits.specs.Words.{is_set, places_of, AreSummed}
use Rattle.slab_bits.proofs.Least.{member, no_member, clear_word, AreClear, IsLeastFrom-word}
use Rattle.slab_bits.proofs.Words.{length-places_of, set_fits, clear_fits}

true_false : (b : Bool) → b ≡ true → b ≡ false → ⊥
true_false b is isnt = cc

-- a word of which the summary has a bit has one itself, and the other way round
word_some : (summary : ℕ) (words : List ℕ) → AreSummed summary words → (k : ℕ) → bit_at summary k ≡ 1 → 0 < get_or words k 0
word_some summary words are k bit = ltb-true 0 (get_or words k 0) (sym (are.summed k) ∙ ap (λ (b : ℕ). b == 1) bit)

word_none : (summary : ℕ) (words : List ℕ) → AreSummed summary words → (k : ℕ) → bit_at summary k ≡ 0 → get_or words k 0 ≡ 0
word_none summary words are k bit =
    elim (cases_lt 0 (get_or words k 0)) [
      | inl some ↦ absurd (true_false (nat_lt 0 (get_or words k 0)) (lt-ltb 0 (get_or words k 0) some) (sym (are.summed k) ∙ ap (λ (b : ℕ). b == 1) bit))
      | inr none ↦ omega arith
    ]

-- a word with a bit is one of the sixteen
pub index_within : (summary : ℕ) (words : List ℕ) → AreSummed summary words → (k : ℕ) → 0 < get_or words k 0 → k < 16
index_within summary words are k some =
    elim (cases_lt k 16) [
      | inl below ↦ below
      | inr past ↦ (let gone = get_or_past words k 0 (omega (arith, are.sixteen)) in absurd (omega arith))
    ]

-- where the summary is 0 there is no member
pub HasNoneFrom-summary : (summary : ℕ) (words : List ℕ) → AreSummed summary words → summary ≡ 0 → HasNoneFrom (places_of words) 0
HasNoneFrom-summary summary words are none place _ =
    clear_word words place (word_none summary words are (place / 64) (rw none (bit_at-zero (place / 64))))

-- the first word with a bit
pub first_word : (summary : ℕ) (words : List ℕ) → AreSummed summary words → 0 < summary → summary < 2 ^ 64 → 0 < get_or words (trailing_zeros w64 summary) 0
first_word summary words are some fit = word_some summary words are (trailing_zeros w64 summary) (bit_at-trailing_zeros w64 summary some fit).1

pub IsLeastFrom-summary : (summary : ℕ) (words : List ℕ) → AreSummed summary words → 0 < summary → summary < 2 ^ 64
    → IsLeastFrom (places_of words) 0 (trailing_zeros w64 summary * 64 + trailing_zeros w64 (get_or words (trailing_zeros w64 summary) 0))
IsLeastFrom-summary summary words are some fit =
    let index = trailing_zeros w64 summary in
    let lowest = bit_at-trailing_zeros w64 summary some fit in
    let clear : AreClear words 0 index = λ k _ below. word_none summary words are k (lowest.2 k below) in
    IsLeastFrom-word words 0 index clear (omega arith) (first_word summary words are some fit) (are.fit index)

-- the highest bit of a word
pub record IsTop (word top : ℕ) : Type 0 where
  pub within : top < 64
  pub bit : bit_at word top ≡ 1
  pub above : (i : ℕ) → top < i → bit_at word i ≡ 0

pub IsTop-leading : (word : ℕ) → 0 < word → word < 2 ^ 64 → IsTop word (63 - leading_zeros w64 word)
IsTop-leading word some fit =
    let top = leading_top 64 word some fit in
    let j = top.0 in
    let at : 63 - leading_zeros w64 word ≡ j = omega (arith, top.1) in
    let next : 2 ^ suc j ≡ 2 * 2 ^ j = omega arith in
    let rest : word - 2 ^ j < 2 ^ j = omega (arith, top.2, top.3, next) in
    let split : 1 * 2 ^ j + (word - 2 ^ j) ≡ word = omega (arith, top.2) in
    let once : word / 2 ^ j ≡ 1 = ap (λ (n : ℕ). n / 2 ^ j) (sym split) ∙ digits_div 1 rest in
    record {
      within = omega (arith, top.1);
      bit = rw (at, once) refl;
      above = λ i above. bit_at_above word (suc j) i top.3 (omega (arith, at));
    }

pub few_leading : (word : ℕ) → 0 < word → word < 2 ^ 64 → leading_zeros w64 word ≤ 63
few_leading word some fit = let top = leading_top 64 word some fit in omega (arith, top.1)

-- the last word with a bit
pub last_word : (summary : ℕ) (words : List ℕ) → AreSummed summary words → 0 < summary → summary < 2 ^ 64 → 0 < get_or words (63 - leading_zeros w64 summary) 0
last_word summary words are some fit = word_some summary words are (63 - leading_zeros w64 summary) (IsTop-leading summary some fit).bit

IsGreatest-top : (words : List ℕ) (index top : ℕ) → ((k : ℕ) → index < k → get_or words k 0 ≡ 0) → IsTop (get_or words index 0) top → IsGreatest (places_of words) (index * 64 + top)
IsGreatest-top words index top clear is =
    let place = index * 64 + top in
    let word : place / 64 ≡ index = omega (arith, is.within) in
    let bit : place % 64 ≡ top = omega (arith, is.within) in
    record {
      member = member words place (rw (word, bit) is.bit);
      greatest = λ higher above.
          elim (cases_eq (higher / 64) index) [
            | inl same ↦ let more : top < higher % 64 = omega (arith, above, same, is.within) in no_member words higher (rw same (is.above (higher % 64) more))
            | inr other ↦ clear_word words higher (clear (higher / 64) (omega (arith, above, other, is.within)))
          ];
    }

pub IsGreatest-summary : (summary : ℕ) (words : List ℕ) → AreSummed summary words → 0 < summary → summary < 2 ^ 64
    → IsGreatest (places_of words) ((63 - leading_zeros w64 summary) * 64 + (63 - leading_zeros w64 (get_or words (63 - leading_zeros w64 summary) 0)))
IsGreatest-summary summary words are some fit =
    let index = 63 - leading_zeros w64 summary in
    let highest = IsTop-leading summary some fit in
    let word = IsTop-leading (get_or words index 0) (last_word summary words are some fit) (are.fit index) in
    IsGreatest-top words index (63 - leading_zeros w64 (get_or words index 0)) (λ k above. word_none summary words are k (highest.above k above)) word

-- the words stay words where one is changed
fit_set : (words : List ℕ) → ((k : ℕ) → get_or words k 0 < 2 ^ 64) → (k word : ℕ) → k < length words → word < 2 ^ 64 → (j : ℕ) → get_or (set words k word) j 0 < 2 ^ 64
fit_set words fits k word within fit j =
    elim (cases_eq j k) [
      | inl same ↦ rw (same, get_or-set_same words k word 0 within) fit
      | inr other ↦ rw (get_or-set_other words k j word 0 other) (fits j)
    ]

-- one word and its bit of the summary changed alike
AreSummed-set : (summary summary' : ℕ) (words : List ℕ) → AreSummed summary words → (k word : ℕ) → k < 16 → word < 2 ^ 64
    → is_set summary' k ≡ nat_lt 0 word → ((i : ℕ) → i ≢ k → is_set summary' i ≡ is_set summary i) → AreSummed summary' (set words k word)
AreSummed-set summary summary' words are k word within fit bit others =
    let inside : k < length words = omega (arith, are.sixteen) in
    record {
      sixteen = length-set words k word ∙ are.sixteen;
      fit = fit_set words are.fit k word inside fit;
      summed = λ i.
          elim (cases_eq i k) [
            | inl same ↦ rw (same, get_or-set_same words k word 0 inside) bit
            | inr other ↦ rw (get_or-set_other words k i word 0 other) (others i other ∙ are.summed i)
          ];
    }

with_bit : (word bit : ℕ) → bit < 64 → 0 < bit_or word (1 * 2 ^ bit % 2 ^ 64)
with_bit word bit small =
    elim (cases_lt 0 (bit_or word (1 * 2 ^ bit % 2 ^ 64))) [
      | inl some ↦ some
      | inr none ↦
          let is : bit_or word (1 * 2 ^ bit % 2 ^ 64) ≡ 0 = omega arith in
          let lost : bit_at (bit_or word (1 * 2 ^ bit % 2 ^ 64)) bit ≡ 0 = rw is (bit_at-zero bit) in
          absurd (omega (arith, lost, bit_at_set_same w64 word bit small))
    ]

pub AreSummed-with : (summary : ℕ) (words : List ℕ) → AreSummed summary words → (n : ℕ) → n < 1024
    → AreSummed (bit_or summary (1 * 2 ^ (n / 64) % 2 ^ 64)) (set words (n / 64) (bit_or (get_or words (n / 64) 0) (1 * 2 ^ (n % 64) % 2 ^ 64)))
AreSummed-with summary words are n below =
    let k = n / 64 in
    let word = get_or words k 0 in
    let within : k < 16 = omega arith in
    let small : n % 64 < 64 = omega arith in
    let some = with_bit word (n % 64) small in
    AreSummed-set summary (bit_or summary (1 * 2 ^ k % 2 ^ 64)) words are k (bit_or word (1 * 2 ^ (n % 64) % 2 ^ 64)) within (set_fits word (1 * 2 ^ (n % 64)) (are.fit k))
    (ap (λ (b : ℕ). b == 1) (bit_at_set_same w64 summary k (omega arith)) ∙ sym (lt-ltb 0 (bit_or word (1 * 2 ^ (n % 64) % 2 ^ 64)) some))
    (λ i other. ap (λ (b : ℕ). b == 1) (bit_at_set_other w64 summary k (omega arith) i other))

-- a word that became 0 loses it
pub AreSummed-none : (summary : ℕ) (words : List ℕ) → AreSummed summary words → summary < 2 ^ 64 → (k word : ℕ) → k < 16 → word ≡ 0
    → AreSummed (bit_and summary (bit_not w64 (1 * 2 ^ k % 2 ^ 64))) (set words k word)
AreSummed-none summary words are fit k word within none =
    let summary' = bit_and summary (bit_not w64 (1 * 2 ^ k % 2 ^ 64)) in
    let small : k < 64 = omega arith in
    let fits : summary' < 2 ^ 64 = clear_fits summary (bit_not w64 (1 * 2 ^ k % 2 ^ 64)) fit in
    AreSummed-set summary summary' words are k word within (omega arith)
    (ap (λ (b : ℕ). b == 1) (bit_at_clear_same w64 summary k small) ∙ sym (le-ltb 0 word (omega arith)))
    (λ i other.
    elim (cases_lt i 64) [
      | inl below ↦ ap (λ (b : ℕ). b == 1) (bit_at_clear_other w64 summary k small i below other)
      | inr past ↦ ap (λ (b : ℕ). b == 1) (bit_at_above summary' 64 i fits past ∙ sym (bit_at_above summary 64 i fit past))
    ])

-- the words of the set with no member
zeros : (k : ℕ) → ◌≡◌ {A = ℕ} (get_or (replicate 16 0) k 0) 0
zeros k =
    elim (cases_lt k 16) [
      | inl below ↦ get_or-replicate 16 k 0 0 below
      | inr past ↦ (let len = length-replicate {A = ℕ} 16 0 in get_or_past (replicate 16 0) k 0 (omega arith))
    ]

pub AreSummed-empty : AreSummed 0 (replicate 16 0)
AreSummed-empty = record {
  sixteen = length-replicate {A = ℕ} 16 0;
  fit = λ k. rw (zeros k) (omega arith);
  summed = λ k. ap (λ (b : ℕ). b == 1) (bit_at-zero k) ∙ sym (ap (nat_lt 0) (zeros k));
}

pub places_of-zeros : places_of (replicate 16 0) ≡ replicate 1024 false
places_of-zeros =
    let words = length-places_of (replicate 16 0) in
    let sixteen = length-replicate {A = ℕ} 16 0 in
    let len = length-replicate 1024 false in
    ext_get_or false (places_of (replicate 16 0)) (replicate 1024 false) (omega arith)
    (λ place within. clear_word (replicate 16 0) place (zeros (place / 64)) ∙ sym (get_or-replicate 1024 place false false (omega arith)))
