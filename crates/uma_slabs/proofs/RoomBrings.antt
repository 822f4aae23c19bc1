-- A slab brought into a room of a keg.
use Rattle.std.proofs.Common.{◌≡◌, ℕ, ◌+◌, ◌<◌, ◌≤◌, Bool, true, false, not, cond, List, map, length, set, get_or, replicate, Option, Some, None, IsSome, is_some, arith, refl, ap, ◌∙◌}
use Rattle.std.specs.List.{All}
use Rattle.std.specs.Option.{is_none}
use Rattle.std.proofs.lemmas.List.{map-set, length-set, length-map, get_or_default, length-replicate}
use Rattle.std.proofs.lemmas.List.Elements.{All-map, All-set}
use Rattle.uma_slabs.specs.declared.places.Places.TheInside.{Inside}
use Rattle.uma_slabs.specs.Places.{Slab, slab_count}
use Rattle.uma_slabs.specs.Kept.{keg_of, places_of, IsKept}
use Rattle.uma_slabs.specs.Room.{RoomState, room_at, slab_in, is_absent, IsFirstThat, NonePassFrom}
use Rattle.uma_slabs.proofs.Bringing.{IsNext, free_slab, brought, BringsIn, brings_in}
use Rattle.uma_slabs.proofs.Marks.{count_all}
use Rattle.uma_slabs.proofs.RoomPuts.{places_of-room}
use Rattle.uma_slabs.proofs.RoomTests.{slab_at-room, domain_at-room}

slab_in-absent : (d : Option ℕ) (free : List Bool) → is_none d ≡ true → slab_in (record { domain = d; free = free }) ≡ None
slab_in-absent None free e = refl
slab_in-absent (Some d) free e = absurd (cc)

is_some-in : (d : Option ℕ) → is_none d ≡ false → IsSome d
is_some-in None e = absurd (cc)
is_some-in (Some d) e = refl

-- the room found is that of the least index that isn't in
pub IsNext-found : (a : Inside) → IsKept a → (i : ℕ) (d : RoomState) → IsFirstThat is_absent a.rooms i → IsNext (places_of a) i
IsNext-found a kept i d found =
    let r = get_or a.rooms i d in
    let len : length (map slab_in a.rooms) ≡ length a.rooms = length-map a.rooms slab_in in
    record {
      within = rw len found.within;
      cap = len ∙ kept.rooms;
      absent = slab_at-room a.per_slab a.cap a.made a.rooms i r found.within (get_or_default a.rooms i d r found.within) ∙ slab_in-absent r.domain r.free (found.passes d);
      least = λ lower below.
          let s = get_or a.rooms lower d in
          let within : lower < length a.rooms = omega (arith, found.within) in
          let is = domain_at-room a.per_slab a.cap a.made a.rooms lower s within (get_or_default a.rooms lower d s within) in
          rw is (is_some-in s.domain (found.earlier lower d below));
    }

-- what the room is made into, as a slab
pub record IsBrought (a : Inside) (d i : ℕ) (r r' : RoomState) : Type 0 where
  pub found : IsFirstThat is_absent a.rooms i
  pub room : r ≡ get_or a.rooms i r
  pub changed : r' ≡ record { domain = Some d; free = replicate (length r.free) true }

-- the same by the room's index
abbrev pub brought_room : ℕ → RoomState → RoomState
brought_room d r = record { domain = Some d; free = replicate (length r.free) true }

pub brought_at : (a : Inside) (d i : ℕ) → IsFirstThat is_absent a.rooms i → IsBrought a d i (room_at a.rooms i) (brought_room d (room_at a.rooms i))
brought_at a d i found = record { found = found; room = get_or_default a.rooms i _ (room_at a.rooms i) found.within; changed = refl }

places_of-found : (a : Inside) → IsKept a → (d i : ℕ) (r r' : RoomState) → IsBrought a d i r r' → length r.free ≡ a.per_slab
places_of-found a kept d i r r' is = places_of-room a kept i r is.found.within is.room

keg_of-brought : (a : Inside) → IsKept a → (d i : ℕ) (r r' : RoomState) → IsBrought a d i r r' → keg_of a.per_slab a.cap (a.made + 1) (set a.rooms i r') ≡ brought (places_of a) d i
keg_of-brought a kept d i r r' is =
    let slab : slab_in r' ≡ Some (free_slab d a.per_slab) = rw (is.changed, places_of-found a kept d i r r' is) refl in
    let slabs = map-set slab_in a.rooms i r' ∙ ap (set (map slab_in a.rooms) i) slab in
    ap (λ (xs : List (Option Slab)). record { per_slab = a.per_slab; cap = a.cap; made = a.made + 1; slabs = xs }) slabs

pub brings_room : (a : Inside) → IsKept a → (d i : ℕ) (r r' : RoomState) → IsBrought a d i r r'
    → BringsIn (places_of a) d i (keg_of a.per_slab a.cap (a.made + 1) (set a.rooms i r'))
brings_room a kept d i r r' is =
    rw (keg_of-brought a kept d i r r' is) (brings_in (places_of a) d i (IsNext-found a kept i r is.found) kept.sound)

pub IsKept-brought : (a : Inside) (kept : IsKept a) (d i : ℕ) (r r' : RoomState) → IsBrought a d i r r'
    → IsKept (record a { rooms = set a.rooms i r'; slabs = a.slabs + 1; free = a.free + a.per_slab; made = a.made + 1 })
IsKept-brought a kept d i r r' is =
    let done = brings_room a kept d i r r' is in
    let len = ap (λ (x : RoomState). length x.free) is.changed ∙ length-replicate (length r.free) true ∙ places_of-found a kept d i r r' is in
    let counted = done.counts.free in
    let more = done.counts.slabs in
    let slabs = kept.slabs in
    let free = kept.free in
    record {
      rooms = length-set a.rooms i r' ∙ kept.rooms;
      places = All-set (λ room. length room.free ≡ a.per_slab) a.rooms i r' len kept.places;
      slabs = omega arith;
      free = omega arith;
      sound = done.sound;
    }

-- where no room is found, all slabs are in
counted_in : (d : Option ℕ) (free : List Bool) → is_none d ≡ false → cond (not (is_some (slab_in (record { domain = d; free = free })))) 1 0 ≤ 0
counted_in None free e = absurd (cc)
counted_in (Some d) free e = omega arith

pub slab_count-full : (a : Inside) → IsKept a → NonePassFrom is_absent a.rooms 0 → slab_count (places_of a) ≡ a.cap
unfolding slab_count
slab_count-full a kept none =
    let each : All (λ room. cond (not (is_some (slab_in room))) 1 0 ≤ 0) a.rooms =
    λ k d within. counted_in (get_or a.rooms k d).domain (get_or a.rooms k d).free (none k d (omega arith) within) in
    count_all (is_some {T = Slab}) (map slab_in a.rooms) (All-map (λ (o : Option Slab). cond (not (is_some o)) 1 0 ≤ 0) slab_in a.rooms each)
    ∙ length-map a.rooms slab_in ∙ kept.rooms
