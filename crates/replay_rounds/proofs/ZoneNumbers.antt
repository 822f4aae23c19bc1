-- Sums over the zones of a keg, by their lines.
use Rattle.std.proofs.Common.{◌≡◌, ℕ, zero, suc, ◌+◌, ◌<◌, ◌≤◌, inl, inr, Bool, true, false, cond, List, [], ◌∷◌, Option, Some, None, length, get_or, take, refl, sym, ap, ◌∙◌, subst, arith}
use Rattle.std.specs.Prelude.{◌==◌, slice_get, count_by}
use Rattle.std.specs.Option.{option_map_or}
use Rattle.std.proofs.lemmas.Bool.{eq-eqb, ne_eqb, eqb-true, cases_order}
use Rattle.std.proofs.lemmas.List.{take-take, take_all}
use Rattle.std.proofs.lemmas.List.Sums.{sum_by-take-le, count_by_more_yes}
use Rattle.std.proofs.lemmas.Option.{slice_get_within, get_or_from_slice_get}
use Rattle.trace_text.specs.declared.trace.ZoneHead.{ZoneHead}
use Rattle.trace_text.specs.Valid.{sharer_count}
use Rattle.replay_rounds.specs.Kegs.{index_of, keg_place}
use Rattle.replay_rounds.proofs.KegLists.{index_none}
use Rattle.replay_rounds.specs.Slots.{in_keg}

-- the sum of what a function gives for each place of a zone of the keg; `k` is the place of the first of these lines
abbrev pub over_zones : ℕ → ℕ → List ZoneHead → (ℕ → ℕ) → ℕ
over_zones p k [] g = 0
over_zones p k (line ∷ lines) g = cond (keg_place k line == p) (g k) 0 + over_zones p (k + 1) lines g

cond_add : (b : Bool) (m n : ℕ) → cond b (m + n) 0 ≡ cond b m 0 + cond b n 0
cond_add true m n = refl
cond_add false m n = refl

cond_zero : (b : Bool) → ◌≡◌ {A = ℕ} (cond b 0 0) 0
cond_zero true = refl
cond_zero false = refl

zero_plus : (n : ℕ) → n ≡ 0 + n
zero_plus n = omega arith

plus_zero : (n : ℕ) → n + 0 ≡ n
plus_zero n = omega arith

four : (a b c d : ℕ) → (a + b) + (c + d) ≡ (a + c) + (b + d)
four a b c d = omega arith

pub zones_add : (p k : ℕ) (lines : List ZoneHead) (g h : ℕ → ℕ) → over_zones p k lines (λ z. g z + h z) ≡ over_zones p k lines g + over_zones p k lines h
zones_add p k [] g h = refl
zones_add p k (line ∷ lines) g h =
    let b = keg_place k line == p in
    (λ i. cond_add b (g k) (h k) i + zones_add p (k + 1) lines g h i) ∙ four (cond b (g k) 0) (cond b (h k) 0) (over_zones p (k + 1) lines g) (over_zones p (k + 1) lines h)

pub zones_same : (p k : ℕ) (lines : List ZoneHead) (g h : ℕ → ℕ) → ((z : ℕ) → g z ≡ h z) → over_zones p k lines g ≡ over_zones p k lines h
zones_same p k [] g h same = refl
zones_same p k (line ∷ lines) g h same = λ i. cond (keg_place k line == p) (same k i) 0 + zones_same p (k + 1) lines g h same i

pub zones_none : (p k : ℕ) (lines : List ZoneHead) → over_zones p k lines (λ z. 0) ≡ 0
zones_none p k [] = refl
zones_none p k (line ∷ lines) = λ i. cond_zero (keg_place k line == p) i + zones_none p (k + 1) lines i

-- what is counted for one place alone
abbrev only : ℕ → ℕ → ℕ → ℕ
only y t z = cond (y == z) t 0

only_other : (y t z : ℕ) (b : Bool) → (y ≡ z → ⊥) → cond b (only y t z) 0 ≡ 0
only_other y t z b apart = ap (λ c. cond b (cond c t 0) 0) (ne_eqb y z apart) ∙ cond_zero b

only_same : (y t z : ℕ) → y ≡ z → only y t z ≡ t
only_same y t z same = ap (λ c. cond c t 0) (eq-eqb y z same)

zones_past : (p k y t : ℕ) (lines : List ZoneHead) → y < k → over_zones p k lines (only y t) ≡ 0
zones_past p k y t [] past = refl
zones_past p k y t (line ∷ lines) past = λ i. only_other y t k (keg_place k line == p) (λ same. omega arith) i + zones_past p (k + 1) y t lines (omega arith) i

-- what is counted for the place of one zone
zones_at : (p k y j t : ℕ) (lines : List ZoneHead) → y ≡ k + j → over_zones p k lines (only y t) ≡ cond (option_map_or (λ line. keg_place y line == p) (slice_get lines j) false) t 0
zones_at p k y zero t [] is = refl
zones_at p k y (suc j) t [] is = refl
zones_at p k y zero t (line ∷ lines) is =
    let here : y ≡ k = omega arith in
    let own : cond (keg_place k line == p) (only y t k) 0 ≡ cond (keg_place y line == p) t 0 = λ i. cond (keg_place (sym here i) line == p) (only_same y t k here i) 0 in
    let none : over_zones p (k + 1) lines (only y t) ≡ 0 = zones_past p (k + 1) y t lines (omega arith) in
    (λ i. own i + none i) ∙ plus_zero (cond (keg_place y line == p) t 0)
zones_at p k y (suc j) t (line ∷ lines) is =
    let other : cond (keg_place k line == p) (only y t k) 0 ≡ 0 = only_other y t k (keg_place k line == p) (λ same. omega arith) in
    (λ i. other i + zones_at p (k + 1) y j t lines (omega arith) i) ∙ sym (zero_plus (cond (option_map_or (λ line. keg_place y line == p) (slice_get lines j) false) t 0))

pub zones_one : (p y t : ℕ) (lines : List ZoneHead) → over_zones p 0 lines (λ z. cond (y == z) t 0) ≡ cond (in_keg lines p y) t 0
zones_one p y t lines = zones_at p 0 y y t lines (zero_plus y)

-- ---- the zones of a keg have different numbers

is_in : (heads : List ZoneHead) (p z : ℕ) (line : ZoneHead) → slice_get heads z ≡ Some line → in_keg heads p z ≡ (keg_place z line == p)
is_in heads p z line at = ap (λ o. option_map_or (λ (line : ZoneHead). keg_place z line == p) o false) at

pub in_keg_from : (heads : List ZoneHead) (p z : ℕ) (line : ZoneHead) → slice_get heads z ≡ Some line → in_keg heads p z ≡ true → keg_place z line ≡ p
in_keg_from heads p z line at is = eqb-true (keg_place z line) p (sym (is_in heads p z line at) ∙ is)

pub in_keg_is : (heads : List ZoneHead) (p z : ℕ) (line : ZoneHead) → slice_get heads z ≡ Some line → keg_place z line ≡ p → in_keg heads p z ≡ true
in_keg_is heads p z line at is = is_in heads p z line at ∙ eq-eqb (keg_place z line) p is

abbrev shares : ℕ → ZoneHead → Bool
shares p line = option_map_or (λ parent. parent == p) line.parent false

shares_yes : (p : ℕ) (line : ZoneHead) → line.parent ≡ Some p → shares p line ≡ true
shares_yes p line is = ap (λ o. option_map_or (λ parent. parent == p) o false) is ∙ eq-eqb p p refl

at_most : (n m k l : ℕ) → m ≡ n + 1 → k ≤ l → k ≡ m → n + 1 ≤ l
at_most n m k l more less same = omega arith

-- one more sharer before any later place
sharers_more : (heads : List ZoneHead) (p y z : ℕ) (line : ZoneHead) → y < z → slice_get heads y ≡ Some line → line.parent ≡ Some p → sharer_count (take y heads) p + 1 ≤ sharer_count (take z heads) p
sharers_more heads p y z line before at is =
    let within : y < length heads = slice_get_within heads y line at in
    let here : shares p (get_or heads y line) ≡ true = ap (shares p) (get_or_from_slice_get heads y line line at) ∙ shares_yes p line is in
    let more : sharer_count (take (y + 1) heads) p ≡ sharer_count (take y heads) p + 1 = count_by_more_yes (shares p) heads y line within here in
    let first : take (y + 1) (take z heads) ≡ take (y + 1) heads = take-take (y + 1) z heads (omega arith) in
    let less : count_by (shares p) (take (y + 1) (take z heads)) ≤ count_by (shares p) (take z heads) = sum_by-take-le (λ (line : ZoneHead). cond (shares p line) 1 0) (take z heads) (y + 1) in
    let same : count_by (shares p) (take (y + 1) (take z heads)) ≡ sharer_count (take (y + 1) heads) p = ap (count_by (shares p)) first in
    at_most (sharer_count (take y heads) p) _ _ _ more less same

not_suc : (n m : ℕ) → n ≡ 0 → n ≡ m + 1 → ⊥
not_suc n m none more = omega arith

not_less : (m n : ℕ) → m + 1 ≤ n → m + 1 ≡ n + 1 → ⊥
not_less m n less same = omega arith

index_some : (heads : List ZoneHead) (z p : ℕ) (line : ZoneHead) → line.parent ≡ Some p → index_of heads z line ≡ sharer_count (take z heads) p + 1
index_some heads z p line is = ap (λ o. option_map_or (λ parent. sharer_count (take z heads) parent + 1) o 0) is

place_none : (z : ℕ) (line : ZoneHead) → line.parent ≡ None → keg_place z line ≡ z
place_none z line is = ap (λ o. option_map_or (λ parent. parent) o z) is

place_some : (z q : ℕ) (line : ZoneHead) → line.parent ≡ Some q → keg_place z line ≡ q
place_some z q line is = ap (λ o. option_map_or (λ parent. parent) o z) is

-- a zone of the keg is the primary one, or shares the keg
pub data OfKeg (p z : ℕ) (line : ZoneHead) : Type 0 where
  first : line.parent ≡ None → z ≡ p → OfKeg p z line
  second : line.parent ≡ Some p → OfKeg p z line

of_keg_by : (p z : ℕ) (line : ZoneHead) (o : Option ℕ) → line.parent ≡ o → keg_place z line ≡ p → OfKeg p z line
of_keg_by p z line None is at = first is (sym (place_none z line is) ∙ at)
of_keg_by p z line (Some q) is at = second (is ∙ ap Some (sym (place_some z q line is) ∙ at))

pub of_keg : (p z : ℕ) (line : ZoneHead) → keg_place z line ≡ p → OfKeg p z line
of_keg p z line at = of_keg_by p z line line.parent refl at

apart_by : (heads : List ZoneHead) (p y z : ℕ) (one two : ZoneHead) → (y ≡ z → ⊥) → slice_get heads y ≡ Some one → slice_get heads z ≡ Some two → OfKeg p y one → OfKeg p z two → index_of heads y one ≡ index_of heads z two → ⊥
apart_by heads p y z one two apart at_one at_two (first none is) (first none' is') same = apart (is ∙ sym is')
apart_by heads p y z one two apart at_one at_two (first none is) (second shares) same = not_suc (index_of heads y one) (sharer_count (take z heads) p) (index_none heads y one none) (same ∙ index_some heads z p two shares)
apart_by heads p y z one two apart at_one at_two (second shares) (first none is) same = not_suc (index_of heads z two) (sharer_count (take y heads) p) (index_none heads z two none) (sym same ∙ index_some heads y p one shares)
apart_by heads p y z one two apart at_one at_two (second one_shares) (second two_shares) same =
    let counts : sharer_count (take y heads) p + 1 ≡ sharer_count (take z heads) p + 1 = sym (index_some heads y p one one_shares) ∙ same ∙ index_some heads z p two two_shares in
    elim (cases_order y z) [
      | inl equal ↦ apart equal
      | inr (inl less) ↦ not_less (sharer_count (take y heads) p) (sharer_count (take z heads) p) (sharers_more heads p y z one less at_one one_shares) counts
      | inr (inr more) ↦ not_less (sharer_count (take z heads) p) (sharer_count (take y heads) p) (sharers_more heads p z y two more at_two two_shares) (sym counts)
    ]

-- two zones of a keg at different places have different numbers in it
pub numbers_differ : (heads : List ZoneHead) (p y z : ℕ) (one two : ZoneHead) → (y ≡ z → ⊥) → slice_get heads y ≡ Some one → slice_get heads z ≡ Some two → keg_place y one ≡ p → keg_place z two ≡ p → index_of heads y one ≡ index_of heads z two → ⊥
numbers_differ heads p y z one two apart at_one at_two one_of two_of = apart_by heads p y z one two apart at_one at_two (of_keg p y one one_of) (of_keg p z two two_of)

-- a zone's number in its keg is at most the count of sharers
pub number_most : (heads : List ZoneHead) (p z : ℕ) (line : ZoneHead) → slice_get heads z ≡ Some line → line.parent ≡ Some p → index_of heads z line ≤ sharer_count heads p
number_most heads p z line at is =
    let within : z < length heads = slice_get_within heads z line at in
    let all : take (length heads) heads ≡ heads = take_all (length heads) heads (omega arith) in
    let more = sharers_more heads p z (length heads) line within at is in
    let P : List ZoneHead → Type 0 = λ list. sharer_count (take z heads) p + 1 ≤ sharer_count list p in
    let Q : ℕ → Type 0 = λ n. n ≤ sharer_count heads p in
    subst Q (sym (index_some heads z p line is)) (subst P all more)
