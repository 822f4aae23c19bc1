-- The primary zones of a header, by their places and by their numbers among the kegs.
use Rattle.std.proofs.Common.{◌≡◌, ℕ, zero, suc, ◌+◌, ◌<◌, List, [], ◌∷◌, cond, length, take, Option, None, Some, refl, sym, ap, ◌∙◌, arith}
use Rattle.std.proofs.lemmas.List.Sums.{sum_by-cons}
use Rattle.std.proofs.lemmas.Option.{none-some, same_Some, slice_get_within, some_pair_parts}
use Rattle.std.specs.Prelude.{is_none, is_some, slice_get, count_by}
use Rattle.trace_text.specs.declared.trace.ZoneHead.{ZoneHead}
use Rattle.replay_rounds.specs.Kegs.{primaries}
use Rattle.uma_replay.specs.Reporting.{is_primary, keg_number}

abbrev by_parent : Option ℕ → ℕ → ZoneHead → List ZoneHead → List (ℕ × ZoneHead)
by_parent o z head heads = cond (is_some o) (primaries heads (z + 1)) ((z, head) ∷ primaries heads (z + 1))

pub primaries-own : (head : ZoneHead) (heads : List ZoneHead) (z : ℕ) → head.parent ≡ None → primaries (head ∷ heads) z ≡ (z, head) ∷ primaries heads (z + 1)
primaries-own head heads z is = ap (λ o. by_parent o z head heads) is

pub primaries-over : (head : ZoneHead) (heads : List ZoneHead) (z q : ℕ) → head.parent ≡ Some q → primaries (head ∷ heads) z ≡ primaries heads (z + 1)
primaries-over head heads z q is = ap (λ o. by_parent o z head heads) is

abbrev number : List ZoneHead → ℕ → ℕ
number heads k = count_by is_primary (take k heads)

number-more : (head : ZoneHead) (heads : List ZoneHead) (k : ℕ) → number (head ∷ heads) (suc k) ≡ cond (is_primary head) 1 0 + number heads k
number-more head heads k = sum_by-cons (λ h. cond (is_primary h) 1 0) head (take k heads)

-- the primary zone at a place has its number
at_first : (first : ZoneHead) (heads : List ZoneHead) (z k : ℕ) (head : ZoneHead) (o : Option ℕ) → first.parent ≡ o
    → slice_get (primaries heads (z + 1)) (number heads k) ≡ Some (z + 1 + k, head) → slice_get (primaries (first ∷ heads) z) (number (first ∷ heads) (suc k)) ≡ Some (z + suc k, head)
at_first first heads z k head None is later =
    let unit : Option ℕ → ℕ = λ o. cond (is_none o) 1 0 in
    let one : unit first.parent ≡ 1 = ap unit is in
    let next : number (first ∷ heads) (suc k) ≡ suc (number heads k) = omega (arith, number-more first heads k, one) in
    let place : z + 1 + k ≡ z + suc k = omega arith in
    ap (λ list. slice_get list (number (first ∷ heads) (suc k))) (primaries-own first heads z is)
    ∙ (ap (slice_get ((z, first) ∷ primaries heads (z + 1))) next ∙ (later ∙ ap (λ n. Some (n, head)) place))
at_first first heads z k head (Some q) is later =
    let unit : Option ℕ → ℕ = λ o. cond (is_none o) 1 0 in
    let none : unit first.parent ≡ 0 = ap unit is in
    let next : number (first ∷ heads) (suc k) ≡ number heads k = omega (arith, number-more first heads k, none) in
    let place : z + 1 + k ≡ z + suc k = omega arith in
    ap (λ list. slice_get list (number (first ∷ heads) (suc k))) (primaries-over first heads z q is)
    ∙ (ap (slice_get (primaries heads (z + 1))) next ∙ (later ∙ ap (λ n. Some (n, head)) place))

at_number : (heads : List ZoneHead) (z k : ℕ) (head : ZoneHead) → slice_get heads k ≡ Some head → head.parent ≡ None → slice_get (primaries heads z) (number heads k) ≡ Some (z + k, head)
at_number [] z k head at is = absurd (none-some head at)
at_number (first ∷ heads) z zero head at is =
    let same : first ≡ head = same_Some first head at in
    let own : first.parent ≡ None = ap (λ (h : ZoneHead). h.parent) same ∙ is in
    let place : z ≡ z + 0 = omega arith in
    ap (λ list. slice_get list 0) (primaries-own first heads z own) ∙ (ap (λ h. Some (z, h)) same ∙ ap (λ n. Some (n, head)) place)
at_number (first ∷ heads) z (suc k) head at is = at_first first heads z k head first.parent refl (at_number heads (z + 1) k head at is)

pub keg_at : (heads : List ZoneHead) (p : ℕ) (head : ZoneHead) → slice_get heads p ≡ Some head → head.parent ≡ None → slice_get (primaries heads 0) (keg_number heads p) ≡ Some (p, head)
keg_at heads p head at is = at_number heads 0 p head at is ∙ ap (λ n. Some (n, head)) (let e : 0 + p ≡ p = omega arith in e)

pub keg_within : (heads : List ZoneHead) (p : ℕ) (head : ZoneHead) → slice_get heads p ≡ Some head → head.parent ≡ None → keg_number heads p < length (primaries heads 0)
keg_within heads p head at is = slice_get_within (primaries heads 0) (keg_number heads p) (p, head) (keg_at heads p head at is)

-- what stands among the primary zones is a primary zone at its place
pub record IsPrimaryAt (heads : List ZoneHead) (z p : ℕ) (head : ZoneHead) : Type 0 where
  pub k : ℕ
  pub place : p ≡ z + k
  pub at : slice_get heads k ≡ Some head
  pub own : head.parent ≡ None

later : (first : ZoneHead) (heads : List ZoneHead) (z p : ℕ) (head : ZoneHead) → IsPrimaryAt heads (z + 1) p head → IsPrimaryAt (first ∷ heads) z p head
later first heads z p head is = record { k = suc is.k; place = is.place ∙ (let e : z + 1 + is.k ≡ z + suc is.k = omega arith in e); at = is.at; own = is.own }

plus_before : (p : ℕ) → p ≡ 0 + p
plus_before p = omega arith

same_place : (z p j : ℕ) → z ≡ p → p ≡ z + j → j ≡ 0
same_place z p j same place = omega arith

one_more : (k : ℕ) → 1 + k ≡ suc k
one_more k = omega arith

none_more : (k : ℕ) → 0 + k ≡ k
none_more k = omega arith

plus_none : (z : ℕ) → z ≡ z + 0
plus_none z = omega arith

by_first : (first : ZoneHead) (heads : List ZoneHead) (z k p : ℕ) (head : ZoneHead) (o : Option ℕ) → first.parent ≡ o → slice_get (primaries (first ∷ heads) z) k ≡ Some (p, head)
    → ((j : ℕ) → slice_get (primaries heads (z + 1)) j ≡ Some (p, head) → IsPrimaryAt heads (z + 1) p head) → IsPrimaryAt (first ∷ heads) z p head
by_first first heads z zero p head None is at rest =
    let found : Some (z, first) ≡ Some (p, head) = sym (ap (λ list. slice_get list 0) (primaries-own first heads z is)) ∙ at in
    let parts = some_pair_parts z p first head found in
    record { k = 0; place = sym parts.0 ∙ plus_none z; at = ap Some parts.1; own = sym (ap (λ (h : ZoneHead). h.parent) parts.1) ∙ is }
by_first first heads z (suc k) p head None is at rest =
    later first heads z p head (rest k (sym (ap (λ list. slice_get list (suc k)) (primaries-own first heads z is)) ∙ at))
by_first first heads z k p head (Some q) is at rest =
    later first heads z p head (rest k (sym (ap (λ list. slice_get list k) (primaries-over first heads z q is)) ∙ at))

pub primary_is : (heads : List ZoneHead) (z k p : ℕ) (head : ZoneHead) → slice_get (primaries heads z) k ≡ Some (p, head) → IsPrimaryAt heads z p head
primary_is [] z k p head at = absurd (none-some (p, head) at)
primary_is (first ∷ heads) z k p head at = by_first first heads z k p head first.parent refl at (λ j later. primary_is heads (z + 1) j p head later)

-- ---- the number of a primary zone is where it stands

NumberIs : List ZoneHead → ℕ → ℕ → ℕ → ZoneHead → Type 0
NumberIs heads z k p head = slice_get (primaries heads z) k ≡ Some (p, head) → (j : ℕ) → p ≡ z + j → number heads j ≡ k

rest_place : (z i j p : ℕ) → p ≡ z + 1 + i → p ≡ z + suc j → p ≡ z + 1 + j
rest_place z i j p first second = omega arith

not_first : (z i p : ℕ) → p ≡ z + 1 + i → p ≡ z + 0 → ⊥
not_first z i p past here = absurd (omega arith)

number_after : (first : ZoneHead) (heads : List ZoneHead) (z k p j : ℕ) (head : ZoneHead) (o : Option ℕ) → first.parent ≡ o → slice_get (primaries heads (z + 1)) k ≡ Some (p, head) → p ≡ z + j
    → NumberIs heads (z + 1) k p head → number (first ∷ heads) j ≡ cond (is_none o) 1 0 + k
unfolding NumberIs
number_after first heads z k p zero head o is at place later =
    let found : IsPrimaryAt heads (z + 1) p head = primary_is heads (z + 1) k p head at in
    absurd (not_first z found.k p found.place place)
number_after first heads z k p (suc j) head o is at place later =
    let found : IsPrimaryAt heads (z + 1) p head = primary_is heads (z + 1) k p head at in
    let rest : number heads j ≡ k = later at j (rest_place z found.k j p found.place place) in
    let unit : Option ℕ → ℕ = λ o. cond (is_none o) 1 0 in
    number-more first heads j ∙ (ap (λ n. n + number heads j) (ap unit is) ∙ ap (λ n. unit o + n) rest)

number_first : (first : ZoneHead) (heads : List ZoneHead) (z k p : ℕ) (head : ZoneHead) (o : Option ℕ) → first.parent ≡ o → ((k : ℕ) → NumberIs heads (z + 1) k p head) → NumberIs (first ∷ heads) z k p head
unfolding NumberIs
number_first first heads z zero p head None is later at j place =
    let found : Some (z, first) ≡ Some (p, head) = sym (ap (λ list. slice_get list 0) (primaries-own first heads z is)) ∙ at in
    let parts = some_pair_parts z p first head found in
    let here : j ≡ 0 = same_place z p j parts.0 place in
    ap (number (first ∷ heads)) here
number_first first heads z (suc k) p head None is later at j place =
    let found : slice_get (primaries heads (z + 1)) k ≡ Some (p, head) = sym (ap (λ list. slice_get list (suc k)) (primaries-own first heads z is)) ∙ at in
    number_after first heads z k p j head None is found place (later k) ∙ one_more k
number_first first heads z k p head (Some q) is later at j place =
    let found : slice_get (primaries heads (z + 1)) k ≡ Some (p, head) = sym (ap (λ list. slice_get list k) (primaries-over first heads z q is)) ∙ at in
    number_after first heads z k p j head (Some q) is found place (later k) ∙ none_more k

number_is : (heads : List ZoneHead) (z k p : ℕ) (head : ZoneHead) → NumberIs heads z k p head
unfolding NumberIs
number_is [] z k p head = λ at j place. absurd (none-some (p, head) at)
number_is (first ∷ heads) z k p head = number_first first heads z k p head first.parent refl (λ k. number_is heads (z + 1) k p head)

pub same_number : (heads : List ZoneHead) (p k : ℕ) (head : ZoneHead) → slice_get (primaries heads 0) k ≡ Some (p, head) → keg_number heads p ≡ k
unfolding NumberIs
same_number heads p k head at = number_is heads 0 k p head at p (plus_before p)

-- all zones have as many kegs as there are primary zones
all_first : (first : ZoneHead) (heads : List ZoneHead) (z : ℕ) (o : Option ℕ) → first.parent ≡ o → number heads (length heads) ≡ length (primaries heads (z + 1))
    → number (first ∷ heads) (suc (length heads)) ≡ length (primaries (first ∷ heads) z)
all_first first heads z None is rest =
    let unit : Option ℕ → ℕ = λ o. cond (is_none o) 1 0 in
    let one : unit first.parent ≡ 1 = ap unit is in
    omega (arith, number-more first heads (length heads), one, rest, ap length (primaries-own first heads z is))
all_first first heads z (Some q) is rest =
    let unit : Option ℕ → ℕ = λ o. cond (is_none o) 1 0 in
    let none : unit first.parent ≡ 0 = ap unit is in
    omega (arith, number-more first heads (length heads), none, rest, ap length (primaries-over first heads z q is))

pub number_all : (heads : List ZoneHead) (z : ℕ) → keg_number heads (length heads) ≡ length (primaries heads z)
number_all [] z = refl
number_all (first ∷ heads) z = all_first first heads z first.parent refl (number_all heads (z + 1))
