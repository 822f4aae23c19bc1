-- The slots as they lie in boxes, and as contracts see them.
use Rattle.std.proofs.Common.{◌≡◌, ℕ, suc, ◌+◌, ◌-◌, ◌<◌, ◌≤◌, List, [], ◌∷◌, ◌++◌, Option, None, Some, sym, ap, ◌∙◌, arith, length, map, replicate, append_assoc, append-nil}
use Rattle.std.proofs.lemmas.List.{length-map, length-append, get_or_past, map-append, map-set}
use Rattle.std.specs.Prelude.{slice_set, Box}
use Rattle.replay_worker.specs.declared.worker.Held.{Held}
use Rattle.replay_worker.specs.Boxed.{unboxed}
use Rattle.replay_worker.specs.Slots.{slot_at, padded, with_held, emptied}
use Rattle.replay_worker.proofs.SlotLemmas.{emptied_none, length-padded}

-- past the end nothing is held, and nothing is left to take
pub past_none : {A : Type 0} (slots : List (Option A)) (slot : ℕ) → length slots ≤ slot → slot_at slots slot ≡ None
past_none {A} slots slot past = let none : Option A = None in get_or_past slots slot none past

pub past_emptied : {A : Type 0} (slots : List (Option A)) (slot : ℕ) → length slots ≤ slot → emptied slots slot ≡ slots
past_emptied slots slot past = emptied_none slots slot (past_none slots slot past)

pub unboxed_set : {A : Type 0} (boxes : List (Option (Box Held A))) (slot : ℕ) (box : Option (Box Held A)) → map unboxed (slice_set boxes slot box) ≡ slice_set (map unboxed boxes) slot (unboxed box)
unboxed_set boxes slot box = map-set unboxed boxes slot box

-- ---- growing

-- an empty slot at the end is one of those that are still to come
pub padded-more : {A : Type 0} (slots : List (Option A)) (count : ℕ) → length slots < count → padded (slots ++ None ∷ []) count ≡ padded slots count
unfolding padded
padded-more {A} slots count below =
    let none : Option A = None in
    let left : suc (count - length (slots ++ none ∷ [])) ≡ count - length slots = omega (arith, length-append slots (none ∷ [])) in
    append_assoc slots (none ∷ []) (replicate (count - length (slots ++ none ∷ [])) none)
    ∙ ap (λ n. slots ++ replicate n none) left

pub padded-all : {A : Type 0} (slots : List (Option A)) (count : ℕ) → count ≤ length slots → padded slots count ≡ slots
unfolding padded
padded-all {A} slots count past =
    let none : Option A = None in
    let left : count - length slots ≡ 0 = omega arith in
    ap (λ n. slots ++ replicate n none) left ∙ append-nil slots

-- ---- taking

pub emptied_unboxed : {A : Type 0} (boxes : List (Option (Box Held A))) (slot : ℕ) → map unboxed (slice_set boxes slot None) ≡ emptied (map unboxed boxes) slot
unfolding emptied
emptied_unboxed {A} boxes slot = let none : Option (Box Held A) = None in map-set unboxed boxes slot none

pub emptied_past : {A : Type 0} (boxes : List (Option (Box Held A))) (slot : ℕ) → length boxes ≤ slot → map unboxed boxes ≡ emptied (map unboxed boxes) slot
emptied_past boxes slot past = sym (past_emptied (map unboxed boxes) slot (omega (arith, length-map boxes unboxed)))

-- what is left of a box that was taken is nothing
pub emptied_left : {A : Type 0} (boxes : List (Option (Box Held A))) (slot : ℕ) (left : Option (Box Held A)) → left ≡ None → map unboxed (slice_set boxes slot left) ≡ emptied (map unboxed boxes) slot
emptied_left {A} boxes slot left is = ap (λ (o : Option (Box Held A)). map unboxed (slice_set boxes slot o)) is ∙ emptied_unboxed boxes slot

-- ---- putting

-- a slot is within the padded list
pub padded_below : {A : Type 0} (boxes : List (Option (Box Held A))) (slots : List (Option Held)) (slot n : ℕ) → map unboxed boxes ≡ padded slots (slot + 1) → n ≡ length boxes → slot < n
padded_below boxes slots slot n is size = omega (arith, length-padded slots (slot + 1), ap length is, length-map boxes unboxed)

pub put_unboxed : {A : Type 0} (boxes : List (Option (Box Held A))) (slots : List (Option Held)) (slot : ℕ) (box : Box Held A) (it : Held) → map unboxed boxes ≡ padded slots (slot + 1) → box.value ≡ it
    → map unboxed (slice_set boxes slot (Some box)) ≡ with_held slots slot it
unfolding with_held
put_unboxed boxes slots slot box it is same =
    unboxed_set boxes slot (Some box)
    ∙ (ap (λ (list : List (Option Held)). slice_set list slot (Some box.value)) is ∙ ap (λ (x : Held). slice_set (padded slots (slot + 1)) slot (Some x)) same)

-- one more empty slot, as it lies in its box's place
pub grown : {A : Type 0} (boxes more : List (Option (Box Held A))) (slots : List (Option Held)) (count : ℕ) → more ≡ boxes ++ None ∷ [] → length boxes < count
    → padded (map unboxed boxes) count ≡ padded slots count → padded (map unboxed more) count ≡ padded slots count
grown {A} boxes more slots count is below same =
    let none : Option (Box Held A) = None in
    let empty : Option Held = None in
    let short : length (map unboxed boxes) < count = omega (arith, length-map boxes unboxed) in
    ap (λ (list : List (Option (Box Held A))). padded (map unboxed list) count) is
    ∙ (ap (λ (list : List (Option Held)). padded list count) (map-append unboxed boxes (none ∷ []))
    ∙ (padded-more (map unboxed boxes) count short ∙ same))
