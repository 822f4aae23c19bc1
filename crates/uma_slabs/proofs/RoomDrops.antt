-- A slab given up from a room of a keg.
use Rattle.std.proofs.Common.{◌≡◌, ℕ, ◌+◌, ◌-◌, ◌*◌, ◌/◌, ◌^◌, ◌<◌, ◌≤◌, ◌==◌, Bool, true, false, ◌&&◌, List, map, length, set, get_or, [], Option, Some, None, IsSome, is_some, count_by, arith, refl, sym, ap, inl, inr, ◌∙◌}
use Rattle.std.specs.List.{All, slice_get}
use Rattle.std.proofs.lemmas.Bool.{cases_lt, eqb-true, eq-eqb, and_from}
use Rattle.std.proofs.lemmas.List.{map-set, length-set, length-map, get_or_default, get_or_past}
use Rattle.std.proofs.lemmas.List.Elements.{All-set}
use Rattle.std.proofs.lemmas.Option.{get_or_from_slice_get}
use Rattle.uma_slabs.specs.declared.places.Places.TheInside.{Inside}
use Rattle.uma_slabs.specs.Dropping.{IsWhollyFree, HasNoneWhollyFree}
use Rattle.uma_slabs.specs.Places.{Slab, slab_at, domain_at}
use Rattle.uma_slabs.specs.Kept.{keg_of, places_of, IsKept}
use Rattle.uma_slabs.specs.Room.{RoomState, room_at, slab_in, is_wholly_free, IsLastThat, NonePassFrom}
use Rattle.uma_slabs.proofs.Dropping.{dropped, IsWholeSlab, DropsSlab, drops_slab}
use Rattle.uma_slabs.proofs.Marks.{count_all}
use Rattle.uma_slabs.proofs.RoomPuts.{free_of-slab, places_of-room}
use Rattle.uma_slabs.proofs.RoomTests.{slab_at-room, domain_at-room}
use Rattle.uma_slabs.proofs.Slabs.{domain_at-absent, slab_of-number, place_at-number}

-- the slab of a wholly free room
whole_slab : (d : Option ℕ) (free : List Bool) → is_some d && (count_by (λ b. b) free == length free) ≡ true
    → (s : Slab) × (slab_in (record { domain = d; free = free }) ≡ Some s) × (count_by (λ b. b) s.free ≡ length s.free)
whole_slab None free e = absurd (cc)
whole_slab (Some d) free e = (record { domain = d; free = free }, refl, eqb-true (count_by (λ b. b) free) (length free) e)

slab_of-some : (d : Option ℕ) (free : List Bool) → IsSome d → (s : Slab) × (slab_in (record { domain = d; free = free }) ≡ Some s)
slab_of-some None free e = absurd (cc)
slab_of-some (Some d) free e = (record { domain = d; free = free }, refl)

all_free : (xs : List Bool) → All (λ x. x ≡ true) xs → count_by (λ b. b) xs ≡ length xs
all_free xs each = count_all (λ (b : Bool). b) xs (λ k d within. rw (each k d within) (omega arith))

-- a room is wholly free where its slab is
is_wholly_free-room : (a : Inside) → IsKept a → (i : ℕ) (r : RoomState) → i < length a.rooms → r ≡ get_or a.rooms i r → IsWhollyFree (places_of a) i → is_wholly_free r ≡ true
is_wholly_free-room a kept i r within room whole =
    let domain = domain_at-room a.per_slab a.cap a.made a.rooms i r within room in
    let some : IsSome r.domain = rw (← domain) whole.is_in in
    let slab = slab_of-some r.domain r.free some in
    let in_keg : slab_at (places_of a) i ≡ Some slab.0 = slab_at-room a.per_slab a.cap a.made a.rooms i r within room ∙ slab.1 in
    let same = free_of-slab r slab.0 slab.1 in
    let long = places_of-room a kept i r within room in
    let each : All (λ x. x ≡ true) r.free =
    λ k d inside.
    let below : k < a.per_slab = omega arith in
    let here : (i * a.per_slab + k) / a.per_slab ≡ i = slab_of-number a.per_slab i k below in
    let free = sym (place_at-number (places_of a) i k slab.0 in_keg below) ∙ whole.free (i * a.per_slab + k) here in
    let at : slice_get r.free k ≡ Some true = rw (← same) free in
    get_or_from_slice_get r.free k true d at
    in
    and_from (is_some r.domain) (count_by (λ b. b) r.free == length r.free) some (eq-eqb (count_by (λ b. b) r.free) (length r.free) (all_free r.free each))

no_slab : {X : Type 0} (o : Option X) → o ≡ None → IsSome o → ⊥
no_slab o none some = cc

true_false : (b : Bool) → b ≡ true → b ≡ false → ⊥
true_false b is_true is_false = cc

-- no slab from this index on is wholly free where no room is
pub none_whole : (a : Inside) → IsKept a → RoomState → (start : ℕ) → NonePassFrom is_wholly_free a.rooms start → (other : ℕ) → start ≤ other → IsWhollyFree (places_of a) other → ⊥
none_whole a kept d start none other from whole =
    elim (cases_lt other (length a.rooms)) [
      | inl within ↦
          let r = get_or a.rooms other d in
          let room : r ≡ get_or a.rooms other r = get_or_default a.rooms other d r within in
          true_false (is_wholly_free r) (is_wholly_free-room a kept other r within room whole) (none other d from within)
      | inr past ↦
          let long = length-map a.rooms slab_in in
          let absent : slab_at (places_of a) other ≡ None = get_or_past (map slab_in a.rooms) other None (omega arith) in
          no_slab (domain_at (places_of a) other) (domain_at-absent (places_of a) other absent) whole.is_in
    ]

pub HasNoneWhollyFree-rooms : (a : Inside) → IsKept a → NonePassFrom is_wholly_free a.rooms 0 → HasNoneWhollyFree (places_of a)
HasNoneWhollyFree-rooms a kept none index whole = none_whole a kept (record { domain = None; free = [] }) 0 none index (omega arith) whole

-- the last wholly free room, whose slab is given up
pub record IsGivenUp (a : Inside) (i : ℕ) (r r' : RoomState) : Type 0 where
  pub last : IsLastThat is_wholly_free a.rooms i
  pub room : r ≡ get_or a.rooms i r
  pub changed : r' ≡ record r { domain = None }
  pub not_used : a.made + a.cap ≤ 2 ^ 40

-- the same by the room's index
abbrev pub no_slab_in : RoomState → RoomState
no_slab_in r = record r { domain = None }

pub given_up_at : (a : Inside) (i : ℕ) → IsLastThat is_wholly_free a.rooms i → a.made + a.cap ≤ 2 ^ 40 → IsGivenUp a i (room_at a.rooms i) (no_slab_in (room_at a.rooms i))
given_up_at a i last not_used = record { last = last; room = get_or_default a.rooms i _ (room_at a.rooms i) last.within; changed = refl; not_used = not_used }

keg_of-dropped : (a : Inside) (i : ℕ) (r r' : RoomState) → r' ≡ record r { domain = None } → keg_of a.per_slab a.cap a.made (set a.rooms i r') ≡ dropped (places_of a) i
keg_of-dropped a i r r' changed =
    let slab : slab_in r' ≡ None = rw changed refl in
    let slabs = map-set slab_in a.rooms i r' ∙ ap (set (map slab_in a.rooms) i) slab in
    ap (λ (xs : List (Option Slab)). record { per_slab = a.per_slab; cap = a.cap; made = a.made; slabs = xs }) slabs

pub drops_room : (a : Inside) → IsKept a → (i : ℕ) (r r' : RoomState) → IsGivenUp a i r r'
    → DropsSlab (places_of a) i (keg_of a.per_slab a.cap a.made (set a.rooms i r'))
drops_room a kept i r r' is =
    let within = is.last.within in
    let free : is_wholly_free r ≡ true = rw is.room (is.last.passes r) in
    let slab = whole_slab r.domain r.free free in
    let same = free_of-slab r slab.0 slab.1 in
    let rooms : length (map slab_in a.rooms) ≡ length a.rooms = length-map a.rooms slab_in in
    let whole : IsWholeSlab (places_of a) i slab.0 = record {
      within = rw rooms within;
      cap = rooms ∙ kept.rooms;
      in_keg = slab_at-room a.per_slab a.cap a.made a.rooms i r within is.room ∙ slab.1;
      long = ap (λ (xs : List Bool). length xs) same ∙ places_of-room a kept i r within is.room;
      all = slab.2;
    } in
    rw (keg_of-dropped a i r r' is.changed)
    (drops_slab (places_of a) i slab.0 whole kept.sound is.not_used (λ other above. none_whole a kept r (i + 1) is.last.later other (omega arith)))

pub IsKept-dropped : (a : Inside) (kept : IsKept a) (i : ℕ) (r r' : RoomState) → IsGivenUp a i r r'
    → IsKept (record a { rooms = set a.rooms i r'; slabs = a.slabs - 1; free = a.free - a.per_slab })
IsKept-dropped a kept i r r' is =
    let done = drops_room a kept i r r' is in
    let len = ap (λ (x : RoomState). length x.free) is.changed ∙ places_of-room a kept i r is.last.within is.room in
    let fewer = done.counts.slabs in
    let less = done.counts.free in
    let slabs = kept.slabs in
    let free = kept.free in
    record {
      rooms = length-set a.rooms i r' ∙ kept.rooms;
      places = All-set (λ room. length room.free ≡ a.per_slab) a.rooms i r' len kept.places;
      slabs = omega arith;
      free = omega arith;
      sound = done.sound;
    }
