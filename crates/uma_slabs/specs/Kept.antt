-- How a keg's places are kept: a room for each index, and the counts beside them.
use Rattle.std.specs.Prelude.{◌≡◌, ℕ, ◌≤◌, List, map, length, All}
use Rattle.uma_slabs.specs.declared.places.Places.TheInside.{Inside}
use Rattle.uma_slabs.specs.Places.{KegPlaces, IsSound, slab_count, free_count}
use Rattle.uma_slabs.specs.Room.{RoomState, slab_in}

-- the keg whose rooms these are
abbrev pub keg_of : ℕ → ℕ → ℕ → List RoomState → KegPlaces
keg_of per_slab cap made rooms = record { per_slab = per_slab; cap = cap; made = made; slabs = map slab_in rooms }

-- what contracts see of the fields
abbrev pub places_of : Inside → KegPlaces
places_of a = keg_of a.per_slab a.cap a.made a.rooms

-- the bounds of a keg's size (own)
pub record IsSize (per_slab cap : ℕ) : Type 0 where
  pub some_place : 1 ≤ per_slab
  pub few_places : per_slab ≤ 256
  pub some_slab : 1 ≤ cap
  pub few_slabs : cap ≤ 1024

-- there is a room for each index, with a truth value for each place, and the counts are those of the slabs
pub record IsKept (a : Inside) : Type 0 where
  pub rooms : length a.rooms ≡ a.cap
  pub places : All (λ room. length room.free ≡ a.per_slab) a.rooms
  pub slabs : a.slabs ≡ slab_count (places_of a)
  pub free : a.free ≡ free_count (places_of a)
  pub sound : IsSound (places_of a)
