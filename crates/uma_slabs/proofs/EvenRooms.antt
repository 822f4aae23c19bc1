-- Rooms are alike, and so are the slabs in them.
use Rattle.std.proofs.Common.{◌≡◌, ◌<◌, ℕ, Bool, List, [], Option, Some, None, length, get_or, sym, ap, ◌∙◌}
use Rattle.std.proofs.lemmas.List.{get_or-map, length-map}
use Rattle.uma_slabs.specs.declared.places.Places.TheInside.{Inside}
use Rattle.uma_slabs.specs.Kept.{places_of, IsKept}
use Rattle.uma_slabs.specs.Places.{Slab}
use Rattle.uma_slabs.specs.Room.{RoomState, slab_in}
use Rattle.uma_slabs.specs.UsedPlaces.{AreEven}
use Rattle.uma_slabs.proofs.Slabs.{slab_at-within}

abbrev free_of : Option Slab → List Bool
free_of None = []
free_of (Some slab) = slab.free

room_places : (p : ℕ) (d : Option ℕ) (free : List Bool) (s : Slab) → length free ≡ p → slab_in (record { domain = d; free = free }) ≡ Some s → length s.free ≡ p
room_places p None free s long is = cc
room_places p (Some d) free s long is = ap (λ (o : Option Slab). length (free_of o)) (sym is) ∙ long

pub kept_even : (a : Inside) → IsKept a → AreEven (places_of a)
kept_even a kept = record {
  indices = length-map a.rooms slab_in ∙ kept.rooms;
  places = λ index slab is.
      let within : index < length a.rooms = rw (length-map a.rooms slab_in) at (slab_at-within (places_of a) index slab is) in
      let d : RoomState = record { domain = None; free = [] } in
      let room = get_or a.rooms index d in
      let in_room : slab_in room ≡ Some slab = sym (get_or-map slab_in a.rooms index d None within) ∙ is in
      room_places a.per_slab room.domain room.free slab (kept.places index d within) in_room;
}
