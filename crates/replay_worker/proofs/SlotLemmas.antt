-- What is read of slots after one of them is filled or emptied, and how many pass a test.
use Rattle.std.proofs.Common.{◌++◌, ◌≡◌, ◌≢◌, ℕ, zero, suc, ◌+◌, ◌-◌, ◌<◌, ◌≤◌, inl, inr, List, Bool, false, cond, Option, None, Some, refl, sym, ap, ◌∙◌, arith, length, replicate}
use Rattle.std.proofs.lemmas.Bool.{cases_lt}
use Rattle.std.proofs.lemmas.List.{length-append, length-replicate, length-set, get_or_append_left, get_or-append_right, get_or-replicate, get_or_past, get_or-set_same, get_or-set_other, set-get_or}
use Rattle.std.proofs.lemmas.List.Sums.{sum_by-cons, sum_by-append, sum_by-set}
use Rattle.std.specs.Prelude.{count_by, slice_set}
use Rattle.replay_worker.specs.Slots.{slot_at, padded, filled, with_held, emptied}

-- empty slots hold nothing
empty_at : {A : Type 0} (none : Option A) (n i : ℕ) → none ≡ None → slot_at (replicate n none) i ≡ None
empty_at none n i is = elim (cases_lt i n) [
  | inl within ↦ get_or-replicate n i none None within ∙ is
  | inr past ↦ get_or_past (replicate n none) i None (omega (arith, length-replicate n none))
]

pub slot_at-padded : {A : Type 0} (slots : List (Option A)) (count k : ℕ) → slot_at (padded slots count) k ≡ slot_at slots k
unfolding padded
slot_at-padded {A} slots count k =
    let more : List (Option A) = replicate (count - length slots) None in
    elim (cases_lt k (length slots)) [
      | inl within ↦ get_or_append_left slots more None k within
      | inr past ↦ get_or-append_right slots more (length slots) k None refl past
          ∙ (empty_at None (count - length slots) (k - length slots) refl ∙ sym (get_or_past slots k None past))
    ]

pub length-padded : {A : Type 0} (slots : List (Option A)) (count : ℕ) → count ≤ length (padded slots count)
unfolding padded
length-padded {A} slots count =
    let none : Option A = None in
    omega (arith, length-append slots (replicate (count - length slots) none), length-replicate (count - length slots) none)

-- a filled slot holds what it was filled with, and the others what they held
pub slot_at-with_same : {A : Type 0} (slots : List (Option A)) (slot : ℕ) (it : A) → slot_at (with_held slots slot it) slot ≡ Some it
unfolding with_held
slot_at-with_same slots slot it = get_or-set_same (padded slots (slot + 1)) slot (Some it) None (omega (arith, length-padded slots (slot + 1)))

pub slot_at-with_other : {A : Type 0} (slots : List (Option A)) (slot other : ℕ) (it : A) → other ≢ slot → slot_at (with_held slots slot it) other ≡ slot_at slots other
unfolding with_held
slot_at-with_other slots slot other it apart = get_or-set_other (padded slots (slot + 1)) slot other (Some it) None apart ∙ slot_at-padded slots (slot + 1) other

-- an emptied slot holds nothing, and the others what they held
pub slot_at-emptied_same : {A : Type 0} (slots : List (Option A)) (slot : ℕ) → slot_at (emptied slots slot) slot ≡ None
unfolding emptied
slot_at-emptied_same {A} slots slot = let none : Option A = None in elim (cases_lt slot (length slots)) [
  | inl within ↦ get_or-set_same slots slot none None within
  | inr past ↦ get_or_past (slice_set slots slot None) slot None (omega (arith, length-set slots slot none))
]

pub slot_at-emptied_other : {A : Type 0} (slots : List (Option A)) (slot other : ℕ) → other ≢ slot → slot_at (emptied slots slot) other ≡ slot_at slots other
unfolding emptied
slot_at-emptied_other {A} slots slot other apart = let none : Option A = None in get_or-set_other slots slot other none None apart

-- a slot that holds nothing stays as it is
pub emptied_none : {A : Type 0} (slots : List (Option A)) (slot : ℕ) → slot_at slots slot ≡ None → emptied slots slot ≡ slots
unfolding emptied
emptied_none {A} slots slot empty = ap (slice_set slots slot) (sym empty) ∙ set-get_or slots slot None

-- ---- counts

abbrev unit : {A : Type 0} → (Option A → Bool) → Option A → ℕ
unit p slot = cond (p slot) 1 0

count-empty : {A : Type 0} (p : Option A → Bool) (n : ℕ) → p None ≡ false → count_by p (replicate n None) ≡ 0
count-empty p zero none = refl
count-empty p (suc n) none =
    let first : unit p None ≡ 0 = rw none refl in
    omega (arith, sum_by-cons (unit p) None (replicate n None), first, count-empty p n none)

count-padded : {A : Type 0} (p : Option A → Bool) (slots : List (Option A)) (count : ℕ) → p None ≡ false → count_by p (padded slots count) ≡ count_by p slots
unfolding padded
count-padded {A} p slots count none =
    omega (arith, sum_by-append (unit p) slots (replicate (count - length slots) None), count-empty p (count - length slots) none)

-- an empty slot is filled
pub count-with : {A : Type 0} (p : Option A → Bool) (slots : List (Option A)) (slot : ℕ) (it : A) → p None ≡ false → slot_at slots slot ≡ None
    → count_by p (with_held slots slot it) ≡ count_by p slots + cond (p (Some it)) 1 0
unfolding with_held
count-with p slots slot it none empty =
    let more = padded slots (slot + 1) in
    let was : unit p (slot_at more slot) ≡ 0 = ap (unit p) (slot_at-padded slots (slot + 1) slot ∙ empty) ∙ rw none refl in
    omega (arith, sum_by-set (unit p) more slot (Some it) None (omega (arith, length-padded slots (slot + 1))), count-padded p slots (slot + 1) none, was)

-- what a slot that holds something is read within
within-slot : {A : Type 0} (slots : List (Option A)) (slot : ℕ) (it : A) → slot_at slots slot ≡ Some it → slot < length slots
within-slot {A} slots slot it holds = elim (cases_lt slot (length slots)) [
  | inl within ↦ within
  | inr past ↦ absurd (let none : slot_at slots slot ≡ None = get_or_past slots slot None past in let never : None ≡ Some it = sym none ∙ holds in cc)
]

-- a slot that holds something is emptied
pub count-emptied : {A : Type 0} (p : Option A → Bool) (slots : List (Option A)) (slot : ℕ) (it : A) → p None ≡ false → slot_at slots slot ≡ Some it
    → count_by p (emptied slots slot) + cond (p (Some it)) 1 0 ≡ count_by p slots
unfolding emptied
count-emptied p slots slot it none holds =
    let was : unit p (slot_at slots slot) ≡ unit p (Some it) = ap (unit p) holds in
    let gone : unit p None ≡ 0 = rw none refl in
    omega (arith, sum_by-set (unit p) slots slot None None (within-slot slots slot it holds), was, gone)

-- ---- how many there are

pub length-emptied : {A : Type 0} (slots : List (Option A)) (slot : ℕ) → length (emptied slots slot) ≡ length slots
unfolding emptied
length-emptied {A} slots slot = let none : Option A = None in length-set slots slot none

length-with : {A : Type 0} (slots : List (Option A)) (slot most : ℕ) (it : A) → length slots ≤ most → slot < most → length (with_held slots slot it) ≤ most
unfolding with_held padded
length-with {A} slots slot most it few below =
    let none : Option A = None in
    let more = slots ++ replicate (slot + 1 - length slots) none in
    omega (arith, length-set more slot (Some it), length-append slots (replicate (slot + 1 - length slots) none), length-replicate (slot + 1 - length slots) none)

-- a slot below a bound is filled, or nothing is
pub length-filled : {A : Type 0} (slots : List (Option A)) (slot most : ℕ) (got : Option A) → length slots ≤ most → slot < most → length (filled slots slot got) ≤ most
length-filled slots slot most (Some it) few below = length-with slots slot most it few below
length-filled slots slot most None few below = few
