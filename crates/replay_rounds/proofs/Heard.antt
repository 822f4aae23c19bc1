-- What a list with one or two elements set has at a place, and what the first element knows of the others once it heard of each.
use Rattle.std.proofs.Common.{◌≡◌, ℕ, ◌+◌, ◌<◌, ◌≤◌, inl, inr, List, [], ◌∷◌, Some, sym, ap, ◌∙◌, subst, arith, length}
use Rattle.std.proofs.lemmas.Option.{same_Some, none-some, slice_get_within}
use Rattle.std.proofs.lemmas.List.{length-set}
use Rattle.std.specs.Prelude.{slice_get, slice_set}
use Rattle.replay_rounds.proofs.Lists.{has_too, written}

-- plain numbers
pub below_last : (n k : ℕ) → n < k + 1 → (n ≡ k → ⊥) → n < k
below_last n k below apart = omega arith

pub below_one : (n : ℕ) → n < 1 → n ≡ 0
below_one n below = omega arith

pub none_below : 0 < 0 → ⊥
none_below below = omega arith

pub below_both : (a b c : ℕ) → a < b → b ≤ c → a < c
below_both a b c p q = omega arith

pub le_both : (a b c : ℕ) → a ≤ b → b ≤ c → a ≤ c
le_both a b c p q = omega arith

pub le_same : (a b : ℕ) → a ≡ b → a ≤ b
le_same a b same = omega arith

-- an element at a place is the only one there
pub one_at : {X : Type 0} (xs : List X) (n : ℕ) (x y : X) → slice_get xs n ≡ Some x → slice_get xs n ≡ Some y → x ≡ y
one_at xs n x y p q = same_Some x y (sym p ∙ q)

-- the first element of a list whose first was set
pub first_set : {X : Type 0} (xs : List X) (x y : X) → slice_get (slice_set xs 0 x) 0 ≡ Some y → x ≡ y
first_set [] x y e = absurd (none-some y e)
first_set (w ∷ xs) x y e = same_Some x y e

-- The first knew as much as each of the first `k`. One more told it what it knew, and nobody forgot: so it knows as much as each of the first `k + 1`.
pub heard : {X : Type 0} (know : X → ℕ) (k : ℕ) (mid : List X) (giver first : X)
    → ((n : ℕ) (f w : X) → n < k → slice_get mid 0 ≡ Some f → slice_get mid n ≡ Some w → know w ≤ know f)
    → ((f g : X) → slice_get mid 0 ≡ Some f → slice_get (slice_set (slice_set mid k giver) 0 first) 0 ≡ Some g → know f ≤ know g)
    → know giver ≤ know first
    → (n : ℕ) (f w : X) → n < k + 1 → slice_get (slice_set (slice_set mid k giver) 0 first) 0 ≡ Some f → slice_get (slice_set (slice_set mid k giver) 0 first) n ≡ Some w → know w ≤ know f
heard {X} know k mid giver first before kept told n f w below is_first at =
    let is_f : first ≡ f = first_set (slice_set mid k giver) first f is_first in
    let tells : know giver ≤ know f = (let P : X → Type 0 = λ x. know giver ≤ know x in subst P is_f told) in
    elim (written (slice_set mid k giver) 0 first n w at) [
      | inl here ↦ le_same (know w) (know f) (ap know (sym here.1 ∙ is_f))
      | inr there ↦ elim (written mid k giver n w there.1) [
        | inl gave ↦ (let Q : X → Type 0 = λ x. know x ≤ know f in subst Q gave.1 tells)
        | inr same ↦
            let old = has_too mid (slice_set (slice_set mid k giver) 0 first) 0 f (length-set (slice_set mid k giver) 0 first ∙ length-set mid k giver) is_first in
            le_both (know w) (know old.0) (know f) (before n old.0 w (below_last n k below same.0) old.1 same.1) (kept old.0 f old.1 is_first)
      ]
    ]

-- The first knew as much as each, and then learned more.
pub known : {X : Type 0} (know : X → ℕ) (mid : List X) (first : X) (n : ℕ) (f w : X)
    → ((n : ℕ) (f w : X) → n < length mid → slice_get mid 0 ≡ Some f → slice_get mid n ≡ Some w → know w ≤ know f)
    → slice_get mid 0 ≡ Some f → know f ≤ know first → slice_get (slice_set mid 0 first) n ≡ Some w → know w ≤ know first
known {X} know mid first n f w before at more found = elim (written mid 0 first n w found) [
  | inl here ↦ le_same (know w) (know first) (ap know (sym here.1))
  | inr there ↦ le_both (know w) (know f) (know first) (before n f w (slice_get_within mid n w there.1) at there.1) more
]
