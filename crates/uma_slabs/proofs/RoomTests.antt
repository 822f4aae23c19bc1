-- What the tests of a room mean.
use Rattle.std.proofs.Common.{◌≡◌, ℕ, ◌<◌, Bool, true, false, ◌&&◌, Option, Some, None, List, length, get_or, is_some, option_map, nat_lt, count_by, arith, refl, ap, inl, inr, ◌∙◌, sym}
use Rattle.std.proofs.lemmas.Bool.{ltb-true, lt-ltb, cases_lt}
use Rattle.std.proofs.lemmas.List.{get_or-map}
use Rattle.uma_slabs.specs.Kept.{keg_of}
use Rattle.uma_slabs.specs.Places.{Slab, slab_at, domain_at, places_by}
use Rattle.uma_slabs.specs.Room.{RoomState, slab_in, free_in, can_take, is_partly_used}

pub and_left : (a b : Bool) → a && b ≡ true → a ≡ true
and_left true b e = refl
and_left false b e = absurd (cc)

pub and_right : (a b : Bool) → a && b ≡ true → b ≡ true
and_right true b e = e
and_right false b e = cc

-- a room to take from has a free place
pub can_take-counts : (r : RoomState) → can_take r ≡ true → 0 < free_in r
can_take-counts r e = ltb-true 0 (free_in r) (and_right (is_some r.domain) (nat_lt 0 (free_in r)) e)

-- the slab of an index is the one in its room
pub slab_at-room : (p c m : ℕ) (rooms : List RoomState) (i : ℕ) (r : RoomState) → i < length rooms → r ≡ get_or rooms i r → slab_at (keg_of p c m rooms) i ≡ slab_in r
slab_at-room p c m rooms i r within is = get_or-map slab_in rooms i r None within ∙ ap slab_in (sym is)

domain_of-slab : (d : Option ℕ) (free : List Bool) → option_map (λ (s : Slab). s.domain) (slab_in (record { domain = d; free = free })) ≡ d
domain_of-slab None free = refl
domain_of-slab (Some d) free = refl

pub domain_at-room : (p c m : ℕ) (rooms : List RoomState) (i : ℕ) (r : RoomState) → i < length rooms → r ≡ get_or rooms i r → domain_at (keg_of p c m rooms) i ≡ r.domain
unfolding domain_at
domain_at-room p c m rooms i r within is =
    ap (λ (o : Option Slab). option_map (λ s. s.domain) o) (slab_at-room p c m rooms i r within is) ∙ domain_of-slab r.domain r.free

pub can_take-partly : (r : RoomState) → is_partly_used r ≡ true → can_take r ≡ true
can_take-partly r e = and_left (can_take r) (nat_lt (free_in r) (length r.free)) e

-- a partly used room has fewer free places than places
pub partly_used-counts : (r : RoomState) → is_partly_used r ≡ true → free_in r < length r.free
partly_used-counts r e = ltb-true (free_in r) (length r.free) (and_right (can_take r) (nat_lt (free_in r) (length r.free)) e)

-- a room to take from holds a slab
some_slab : (d : Option ℕ) (free : List Bool) → is_some d ≡ true → (s : Slab) × (slab_in (record { domain = d; free = free }) ≡ Some s)
some_slab None free some = absurd (cc)
some_slab (Some d) free some = (record { domain = d; free = free }, refl)

pub slab_of-can_take : (r : RoomState) → can_take r ≡ true → (s : Slab) × (slab_in r ≡ Some s)
slab_of-can_take r e = some_slab r.domain r.free (and_left (is_some r.domain) (nat_lt 0 (free_in r)) e)

-- a room with a slab and a free place can be taken from, and is partly used where it has a used place too
is_some-slab : (d : Option ℕ) (free : List Bool) (s : Slab) → slab_in (record { domain = d; free = free }) ≡ Some s → is_some d ≡ true
is_some-slab None free s e = cc
is_some-slab (Some d) free s e = refl

pub can_take-slab : (r : RoomState) (s : Slab) → slab_in r ≡ Some s → 0 < free_in r → can_take r ≡ true
can_take-slab r s e some = rw (is_some-slab r.domain r.free s e, lt-ltb 0 (free_in r) some) refl

pub partly_used-slab : (r : RoomState) (s : Slab) → slab_in r ≡ Some s → 0 < free_in r → free_in r < length r.free → is_partly_used r ≡ true
partly_used-slab r s e some less = rw (can_take-slab r s e some, lt-ltb (free_in r) (length r.free) less) refl

-- a room that can't be taken from has no free place
places_by-none : (d : Option ℕ) (free : List Bool) → is_some d && nat_lt 0 (count_by (λ b. b) free) ≡ false → places_by (λ b. b) (slab_in (record { domain = d; free = free })) ≡ 0
places_by-none None free e = refl
places_by-none (Some d) free e = elim (cases_lt 0 (count_by (λ b. b) free)) [ inl some ↦ absurd (cc (lt-ltb 0 (count_by (λ b. b) free) some, e)) | inr none ↦ omega arith ]

pub places_by-cannot_take : (r : RoomState) → can_take r ≡ false → places_by (λ b. b) (slab_in r) ≡ 0
places_by-cannot_take r e = places_by-none r.domain r.free e
