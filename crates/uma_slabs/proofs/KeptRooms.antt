-- A keg's numbers and indices, in the rooms that it keeps.
use Rattle.std.proofs.Common.{◌≡◌, ℕ, ◌/◌, ◌<◌, length, get_or, IsSome, arith}
use Rattle.std.proofs.lemmas.List.{get_or_default}
use Rattle.std.proofs.lemmas.Nat.{div_below}
use Rattle.uma_slabs.specs.declared.places.Places.TheInside.{Inside}
use Rattle.uma_slabs.specs.Places.{domain_at, place_at}
use Rattle.uma_slabs.specs.Kept.{places_of, IsKept}
use Rattle.uma_slabs.specs.Room.{RoomState, room_at}
use Rattle.uma_slabs.proofs.Slabs.{IsIn-place_at}
use Rattle.uma_slabs.proofs.RoomTests.{domain_at-room}

-- a number that has a place has a room
pub room_within : (a : Inside) → IsKept a → (n : ℕ) → IsSome (place_at (places_of a) n) → n / a.per_slab < length a.rooms
room_within a kept n place =
    let below = kept.sound.numbers n place in
    let some = kept.sound.some_place in
    omega (arith, div_below n a.per_slab a.cap some below, kept.rooms)

domain_of-number : (a : Inside) → IsKept a → (n : ℕ) (r : RoomState) → IsSome (place_at (places_of a) n) → r ≡ get_or a.rooms (n / a.per_slab) r → domain_at (places_of a) (n / a.per_slab) ≡ r.domain
domain_of-number a kept n r place is =
    domain_at-room a.per_slab a.cap a.made a.rooms (n / a.per_slab) r (room_within a kept n place) is

domain_of-some : (a : Inside) → IsKept a → (n : ℕ) (r : RoomState) → IsSome (place_at (places_of a) n) → r ≡ get_or a.rooms (n / a.per_slab) r → IsSome r.domain
domain_of-some a kept n r place is =
    rw (← domain_of-number a kept n r place is) (IsIn-place_at (places_of a) n place)

-- the same by the room's index
number_room : (a : Inside) → IsKept a → (n : ℕ) → IsSome (place_at (places_of a) n) → room_at a.rooms (n / a.per_slab) ≡ get_or a.rooms (n / a.per_slab) (room_at a.rooms (n / a.per_slab))
number_room a kept n place = get_or_default a.rooms (n / a.per_slab) _ (room_at a.rooms (n / a.per_slab)) (room_within a kept n place)

pub domain_at-number : (a : Inside) → IsKept a → (n : ℕ) → IsSome (place_at (places_of a) n) → domain_at (places_of a) (n / a.per_slab) ≡ (room_at a.rooms (n / a.per_slab)).domain
domain_at-number a kept n place = domain_of-number a kept n (room_at a.rooms (n / a.per_slab)) place (number_room a kept n place)

pub domain_at-some : (a : Inside) → IsKept a → (n : ℕ) → IsSome (place_at (places_of a) n) → IsSome (room_at a.rooms (n / a.per_slab)).domain
domain_at-some a kept n place = domain_of-some a kept n (room_at a.rooms (n / a.per_slab)) place (number_room a kept n place)
