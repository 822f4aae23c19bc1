-- A room's places, as the first of a set of 256.
use Rattle.std.proofs.Common.{◌≡◌, ◌≢◌, ℕ, zero, suc, ◌+◌, ◌-◌, ◌<◌, ◌≤◌, Bool, true, false, cond, List, [], ◌∷◌, length, set, take, drop, get_or, replicate, Option, Some, count_by, arith, refl, sym, ap, inl, inr, ◌∙◌}
use Rattle.std.specs.List.{All, slice_get}
use Rattle.std.proofs.lemmas.Bool.{cases_lt}
use Rattle.std.proofs.lemmas.List.{ext_get_or, get_or-take, get_or-drop, get_or-replicate, get_or-set_other, get_or_default, get_or_past, length-replicate, length-set, length-take-le}
use Rattle.std.proofs.lemmas.List.Sums.{sum_by-take-drop, sum_by-le}
use Rattle.std.proofs.lemmas.Option.{slice_get_within, slice_get-get_or}
use Rattle.slab_bits.specs.Members.{HasNoneFrom, IsLeastFrom, IsEmpty}
use Rattle.uma_slabs.specs.Room.{RoomState, IsRoom}

-- a room with these places
abbrev pub with_free : Option ℕ → List Bool → RoomState
with_free domain free = record { domain = domain; free = free }

pub length_of-room : (places : ℕ) (free : List Bool) → IsRoom places free → length (take places free) ≡ places
length_of-room places free is = let few = is.few in let whole = is.whole in length-take-le places free (omega arith)

-- a set with no member counts none
no_count : (xs : List Bool) → ((place : ℕ) → get_or xs place false ≡ false) → count_by (λ b. b) xs ≡ 0
no_count xs none =
    let each : All (λ b. cond b 1 0 ≤ 0) xs = λ k d within. rw (get_or_default xs k d false within, none k) (omega arith) in
    let bound = sum_by-le (λ (b : Bool). cond b 1 0) 0 xs each in
    omega arith

pub count_of-none : (free : List Bool) → HasNoneFrom free 0 → count_by (λ b. b) free ≡ 0
count_of-none free none = no_count free (λ place. none place (omega arith))

-- the places past the last don't count
pub count_of-room : (places : ℕ) (free : List Bool) → IsRoom places free → count_by (λ b. b) (take places free) ≡ count_by (λ b. b) free
count_of-room places free is =
    let parts = sum_by-take-drop (λ (b : Bool). cond b 1 0) free places in
    let past = no_count (drop places free) (λ k. get_or-drop places free k false ∙ is.none_past (places + k) (omega arith)) in
    omega arith

pub take-set_at : (n : ℕ) (xs : List Bool) (i : ℕ) (b : Bool) → take n (set xs i b) ≡ set (take n xs) i b
take-set_at zero xs i b = refl
take-set_at (suc n) [] i b = refl
take-set_at (suc n) (x ∷ xs) zero b = refl
take-set_at (suc n) (x ∷ xs) (suc i) b = ap (λ (ys : List Bool). x ∷ ys) (take-set_at n xs i b)

-- a room with one place changed
pub IsRoom-set : (places : ℕ) (free : List Bool) (q : ℕ) (b : Bool) → IsRoom places free → q < places → IsRoom places (set free q b)
IsRoom-set places free q b is within = record {
  few = is.few;
  whole = length-set free q b ∙ is.whole;
  none_past = λ place past. let other : place ≢ q = omega arith in get_or-set_other free q place b false other ∙ is.none_past place past;
}

-- no place of an empty set is free
pub IsRoom-empty : (places : ℕ) (free : List Bool) → places ≤ 256 → IsEmpty free → IsRoom places free
IsRoom-empty places free few empty = record { few = few; whole = empty.places; none_past = λ place past. empty.none place }

pub take-empty : (places : ℕ) (free : List Bool) → places ≤ 256 → IsEmpty free → take places free ≡ replicate places false
take-empty places free few empty =
    let len = length_of-room places free (IsRoom-empty places free few empty) in
    let replicated = length-replicate places false in
    ext_get_or false (take places free) (replicate places false) (len ∙ sym replicated)
    (λ k within.
    let below : k < places = omega arith in
    get_or-take places free k false below ∙ empty.none k ∙ sym (get_or-replicate places k false false below))

-- each place of the first so many is free
pub replicate_false : (m j : ℕ) → get_or (replicate m false) j false ≡ false
replicate_false m j =
    elim (cases_lt j m) [
      | inl below ↦ get_or-replicate m j false false below
      | inr past ↦ (let len = length-replicate m false in get_or_past (replicate m false) j false (omega arith))
    ]

-- the least member of a room's set is its least free place
member_within : (places : ℕ) (free : List Bool) → IsRoom places free → (place : ℕ) → get_or free place false ≡ true → place < places
member_within places free is place member =
    elim (cases_lt place places) [ inl below ↦ below | inr past ↦ absurd (cc (is.none_past place past, member)) ]

pub least_within : (places : ℕ) (free : List Bool) → IsRoom places free → (place : ℕ) → IsLeastFrom free 0 place → place < places
least_within places free is place least = member_within places free is place least.member

pub least_free : (places : ℕ) (free : List Bool) → IsRoom places free → (place : ℕ) → IsLeastFrom free 0 place → slice_get (take places free) place ≡ Some true
least_free places free is place least =
    let below = least_within places free is place least in
    let len = length_of-room places free is in
    let within : place < length (take places free) = omega arith in
    slice_get-get_or (take places free) place false within ∙ ap Some (get_or-take places free place false below ∙ least.member)

pub least_least : (places : ℕ) (free : List Bool) → IsRoom places free → (place : ℕ) → IsLeastFrom free 0 place → (lower : ℕ) → lower < place → get_or (take places free) lower false ≡ false
least_least places free is place least lower below =
    let within = least_within places free is place least in
    get_or-take places free lower false (omega arith) ∙ least.least lower (omega arith) below

-- a place that a room has is below their number
pub place_within : (places : ℕ) (free : List Bool) → IsRoom places free → (place : ℕ) (b : Bool) → slice_get (take places free) place ≡ Some b → place < places
place_within places free is place b at =
    let len = length_of-room places free is in
    let within = slice_get_within (take places free) place b at in
    omega arith
