-- One slot is emptied, filled, or left as it is.
use Rattle.std.proofs.Common.{◌≡◌, ℕ, ◌+◌, ◌-◌, ◌<◌, Bool, true, false, cond, List, [], ◌∷◌, ◌++◌, Option, None, Some, refl, sym, ap, ◌∙◌, arith, length, replicate, reverse, set, append-nil}
use Rattle.std.proofs.lemmas.List.{length-set, set-set, reverse-append}
use Rattle.replay_worker.specs.declared.worker.Held.{Held}
use Rattle.replay_worker.specs.Items.{LiveItem}
use Rattle.replay_worker.specs.Live.{holding}
use Rattle.replay_worker.specs.Slots.{slot_at, padded, with_held, emptied}
use Rattle.replay_rounds.specs.Slots.{left_of, next_held}

-- a slot within the list is filled where it lies
pub with_within : {A : Type 0} (slots : List (Option A)) (slot : ℕ) (it : A) → slot < length slots → with_held slots slot it ≡ set slots slot (Some it)
unfolding with_held padded
with_within {A} slots slot it within =
    let none : Option A = None in
    let left : slot + 1 - length slots ≡ 0 = omega arith in
    ap (λ n. set (slots ++ replicate n none) slot (Some it)) left ∙ ap (λ l. set l slot (Some it)) (append-nil slots)

pub emptied_is : {A : Type 0} (slots : List (Option A)) (slot : ℕ) → emptied slots slot ≡ set slots slot None
unfolding emptied
emptied_is slots slot = refl

-- what was taken out is put back
pub put_again : {A : Type 0} (slots : List (Option A)) (slot : ℕ) (it : A) → slot < length slots → with_held (emptied slots slot) slot it ≡ set slots slot (Some it)
put_again {A} slots slot it within =
    let none : Option A = None in
    let long : slot < length (set slots slot none) = let same = length-set slots slot none in omega arith in
    ap (λ l. with_held l slot it) (emptied_is slots slot) ∙ with_within (set slots slot None) slot it long ∙ set-set slots slot None (Some it)

-- the last item of a list is the first of the list in reverse
pub popped : {A : Type 0} (old new : List A) (item : A) → old ≡ new ++ item ∷ [] → reverse old ≡ item ∷ reverse new
popped old new item is = ap reverse is ∙ reverse-append new (item ∷ [])

-- a marked slot gets the first of the items
pub held-more : (z : ℕ) (lives rest : List LiveItem) (item : LiveItem) (slot : Option Held) → lives ≡ item ∷ rest → next_held (Some z) lives slot ≡ Some (holding z item)
held-more z lives rest item slot is = ap (λ l. next_held (Some z) l slot) is

-- ---- what is left in a slot

pub left-none : (of : ℕ → Bool) (slots now : List (Option Held)) (slot : ℕ) → slot_at slots slot ≡ None → now ≡ emptied slots slot → now ≡ set slots slot (left_of of (slot_at slots slot))
left-none of slots now slot empty is = is ∙ emptied_is slots slot ∙ ap (λ o. set slots slot (left_of of o)) (sym empty)

pub left-taken : (of : ℕ → Bool) (slots now : List (Option Held)) (slot : ℕ) (it : Held) → slot_at slots slot ≡ Some it → of it.zone ≡ true → now ≡ emptied slots slot → now ≡ set slots slot (left_of of (slot_at slots slot))
left-taken of slots now slot it holds lent is =
    is ∙ emptied_is slots slot ∙ ap (λ b. set slots slot (cond b None (Some it))) (sym lent) ∙ ap (λ o. set slots slot (left_of of o)) (sym holds)

pub left-other : (of : ℕ → Bool) (slots now then : List (Option Held)) (slot : ℕ) (it : Held) → slot < length slots → slot_at slots slot ≡ Some it → of it.zone ≡ false → now ≡ emptied slots slot → then ≡ with_held now slot it
    → then ≡ set slots slot (left_of of (slot_at slots slot))
left-other of slots now then slot it within holds kept is put =
    put ∙ ap (λ l. with_held l slot it) is ∙ put_again slots slot it within
    ∙ ap (λ b. set slots slot (cond b None (Some it))) (sym kept) ∙ ap (λ o. set slots slot (left_of of o)) (sym holds)

-- ---- what is put into one

pub put-marked : (slots now : List (Option Held)) (slot z : ℕ) (mark : Option ℕ) (lives rest : List LiveItem) (item : LiveItem) → slot < length slots → mark ≡ Some z → reverse lives ≡ item ∷ rest → now ≡ with_held slots slot (holding z item)
    → now ≡ set slots slot (next_held mark (reverse lives) (slot_at slots slot))
put-marked slots now slot z mark lives rest item within marked is put =
    put ∙ with_within slots slot (holding z item) within ∙ ap (set slots slot) (sym (held-more z (reverse lives) rest item (slot_at slots slot) is)) ∙ ap (λ m. set slots slot (next_held m (reverse lives) (slot_at slots slot))) (sym marked)
