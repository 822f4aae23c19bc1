-- What is drawn may be done: its numbers are in their ranges, a request's slot is free and a freed slot is filled.
use Rattle.std.proofs.Common.{◌≡◌, ◌+◌, ◌<◌, ◌≤◌, ◌≢◌, ◌^◌, ℕ, zero, suc, Bool, true, false, cond, List, [], ◌∷◌, Option, Some, None, get_or, length, refl, sym, subst, arith}
use Rattle.std.specs.Prelude.{nat_le, nat_lt, not}
use Rattle.std.proofs.Math.Nat.{mod-lt}
use Rattle.std.proofs.lemmas.Bool.{leb-true, ltb-true}
use Rattle.std.proofs.lemmas.List.Quantifiers.{position-Some}
use Rattle.rand_xoshiro.specs.Xoshiro256.{plus_plus}
use Rattle.trace_text.specs.declared.trace.Between.{Between}
use Rattle.trace_text.specs.declared.trace.Between.TheVariants.{Give, SetMax}
use Rattle.trace_text.specs.declared.trace.Op.{Op}
use Rattle.trace_text.specs.declared.trace.Op.TheVariants.{Alloc, Free, Enter, Exit, Bind, Unbind, Look, Trim, Drain, DrainSeat, Prealloc, Away, Back}
use Rattle.trace_gen.specs.Generator.{draw, least_free, least_filled, filled_from, filled_slots, look_drawn, unbind_drawn, bind_drawn, free_drawn, alloc_into, op_drawn, give_between, give_drawn}

-- ---- a choice

pub of_each : {X : Type 0} (P : X → Type 0) (b : Bool) (x y : X) → (b ≡ true → P x) → (b ≡ false → P y) → P (cond b x y)
of_each P true x y f g = f refl
of_each P false x y f g = g refl

-- ---- a draw

pub draw_below : (n : ℕ) (random : List ℕ) → 0 < n → (draw n random).0 < n
unfolding draw
draw_below n random some = mod-lt (plus_plus random).0 some

-- ---- the slots

pub record IsFree (slots : List Bool) (slot : ℕ) : Type 0 where
  pub there : slot < length slots
  pub empty : get_or slots slot false ≡ false

pub record IsFull (slots : List Bool) (slot : ℕ) : Type 0 where
  pub there : slot < length slots
  pub full : get_or slots slot false ≡ true

none_false : (b : Bool) → not b ≡ true → b ≡ false
none_false true e = sym e
none_false false e = refl

pub free_found : (slots : List Bool) (slot : ℕ) → least_free slots ≡ Some slot → IsFree slots slot
free_found slots slot is =
    let p = position-Some not slots slot false is in record { there = p.0; empty = none_false (get_or slots slot false) p.1 }

pub full_found : (slots : List Bool) (slot : ℕ) → least_filled slots ≡ Some slot → IsFull slots slot
full_found slots slot is =
    let p = position-Some (λ (filled : Bool). filled) slots slot false is in record { there = p.0; full = p.1 }

-- each of the filled slots from one on is so far behind it
record IsFullFrom (slot at : ℕ) (slots : List Bool) : Type 0 where
  far : ℕ
  at_is : at ≡ slot + far
  full : IsFull slots far

one_more : (filled : Bool) (slots : List Bool) (slot at : ℕ) → IsFullFrom (slot + 1) at slots → IsFullFrom slot at (filled ∷ slots)
one_more filled slots slot at is = record {
  far = suc is.far;
  at_is = let e = is.at_is in omega arith;
  full = record { there = let lt = is.full.there in omega arith; full = is.full.full };
}

full_from : (slots : List Bool) (slot number : ℕ) → number < length (filled_from slot slots) → IsFullFrom slot (get_or (filled_from slot slots) number 0) slots
full_from [] slot number lt = absurd (omega arith)
full_from (true ∷ slots) slot zero lt = record { far = 0; at_is = omega arith; full = record { there = omega arith; full = refl } }
full_from (true ∷ slots) slot (suc number) lt = one_more true slots slot (get_or (filled_from (slot + 1) slots) number 0) (full_from slots (slot + 1) number (omega arith))
full_from (false ∷ slots) slot number lt = one_more false slots slot (get_or (filled_from (slot + 1) slots) number 0) (full_from slots (slot + 1) number lt)

full_numbered : (slots : List Bool) (number : ℕ) → number < length (filled_slots slots) → IsFull slots (get_or (filled_slots slots) number 0)
full_numbered slots number lt =
    let is = full_from slots 0 number lt in
    let e : is.far ≡ get_or (filled_slots slots) number 0 = let f = is.at_is in omega arith in
    subst (IsFull slots) e is.full

-- ---- an operation

abbrev pub MayDo : List Bool → Op → Type 0
MayDo slots (Alloc zone slot arg reserve) = (zone < 3) × IsFree slots slot × (arg ≤ 254)
MayDo slots (Free slot) = IsFull slots slot
MayDo slots (Bind key value) = (key < 2 ^ 64) × (value < 2 ^ 64)
MayDo slots (Unbind key) = key < 2 ^ 64
MayDo slots (Look key) = key < 2 ^ 64
MayDo slots Enter = ⊥
MayDo slots Exit = ⊥
MayDo slots (Trim zone) = ⊥
MayDo slots (Drain zone) = ⊥
MayDo slots (DrainSeat zone) = ⊥
MayDo slots (Prealloc zone items) = ⊥
MayDo slots Away = ⊥
MayDo slots Back = ⊥

abbrev MayDraw : List Bool → Op × List ℕ → Type 0
MayDraw slots drawn = MayDo slots drawn.0

key_fits : (n : ℕ) (random : List ℕ) → 0 < n → n ≤ 2 ^ 64 → (draw n random).0 < 2 ^ 64
key_fits n random some most = let lt = draw_below n random some in omega arith

look_may : (slots : List Bool) (random : List ℕ) → MayDraw slots (look_drawn random)
look_may slots random = key_fits 256 random (omega arith) (omega arith)

unbind_may : (slots : List Bool) (random : List ℕ) → MayDraw slots (unbind_drawn random)
unbind_may slots random = key_fits 256 random (omega arith) (omega arith)

bind_may : (slots : List Bool) (binds : ℕ) (random : List ℕ) → MayDraw slots (bind_drawn binds random)
bind_may slots binds random =
    of_each (MayDraw slots) (nat_lt binds 3000)
    (let key = draw 256 random in let value = draw 4294967296 key.1 in (Bind key.0 value.0, value.1)) (look_drawn random)
    (λ few. (key_fits 256 random (omega arith) (omega arith), key_fits 4294967296 (draw 256 random).1 (omega arith) (omega arith)))
    (λ many. look_may slots random)

free_may : (slots : List Bool) (random : List ℕ) → MayDraw slots (free_drawn slots random)
free_may slots random =
    of_each (MayDraw slots) (nat_lt 0 (length (filled_slots slots)))
    (let number = draw (length (filled_slots slots)) random in (Free (get_or (filled_slots slots) number.0 0), number.1)) (look_drawn random)
    (λ some. full_numbered slots (draw (length (filled_slots slots)) random).0 (draw_below (length (filled_slots slots)) random (ltb-true 0 (length (filled_slots slots)) some)))
    (λ none. look_may slots random)

alloc_may : (slot : Option ℕ) (slots : List Bool) (random : List ℕ) → least_free slots ≡ slot → MayDraw slots (alloc_into slot slots random)
alloc_may (Some slot) slots random is = (draw_below 3 random (omega arith), free_found slots slot is, omega arith)
alloc_may None slots random is = free_may slots random

pub op_may : (slots : List Bool) (binds choice : ℕ) (random : List ℕ) → MayDo slots (op_drawn slots binds choice random).0
op_may slots binds choice random =
    let bound = bind_drawn binds random in
    let fourth = cond (nat_lt choice 50) (unbind_drawn random) (look_drawn random) in
    let third = cond (nat_lt choice 48) bound fourth in
    let second = cond (nat_lt choice 44) (free_drawn slots random) third in
    of_each (MayDraw slots) (nat_lt choice 24) (alloc_into (least_free slots) slots random) second (λ e. alloc_may (least_free slots) slots random refl) (λ e.
    of_each (MayDraw slots) (nat_lt choice 44) (free_drawn slots random) third (λ e. free_may slots random) (λ e.
    of_each (MayDraw slots) (nat_lt choice 48) bound fourth (λ e. bind_may slots binds random) (λ e.
    of_each (MayDraw slots) (nat_lt choice 50) (unbind_drawn random) (look_drawn random) (λ e. unbind_may slots random) (λ e. look_may slots random))))

-- ---- what is given

-- from a worker's full slot to another one's free one
abbrev pub MayGive : ℕ → List (List Bool) → Option Between → Type 0
MayGive workers slots None = Unit {0}
MayGive workers slots (Some (SetMax zone limit)) = ⊥
MayGive workers slots (Some (Give giver slot taker slot2)) =
    (giver < workers) × (taker < workers) × (giver ≢ taker) × IsFull (get_or slots giver []) slot × IsFree (get_or slots taker []) slot2

between_may : (workers : ℕ) (slots : List (List Bool)) (slot slot2 : Option ℕ) → 2 ≤ workers → least_filled (get_or slots 0 []) ≡ slot → least_free (get_or slots 1 []) ≡ slot2
    → MayGive workers slots (give_between slot slot2)
between_may workers slots (Some slot) (Some slot2) two is is2 =
    (omega arith, omega arith, λ e. omega arith, full_found (get_or slots 0 []) slot is, free_found (get_or slots 1 []) slot2 is2)
between_may workers slots (Some slot) None two is is2 = tt
between_may workers slots None slot2 two is is2 = tt

pub give_may : (workers : ℕ) (slots : List (List Bool)) → MayGive workers slots (give_drawn workers slots)
give_may workers slots =
    of_each (MayGive workers slots) (nat_le 2 workers) (give_between (least_filled (get_or slots 0 [])) (least_free (get_or slots 1 []))) None
    (λ two. between_may workers slots (least_filled (get_or slots 0 [])) (least_free (get_or slots 1 [])) (leb-true 2 workers two) refl refl)
    (λ one. tt)
