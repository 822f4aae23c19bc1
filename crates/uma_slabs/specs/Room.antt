-- The room that a keg keeps for the slab of one index.
use Rattle.std.specs.Prelude.{◌≡◌, ℕ, ◌+◌, ◌<◌, ◌≤◌, Bool, true, false, ◌&&◌, ◌==◌, nat_lt, List, [], Option, Some, None, IsTrue, length, replicate, slice_get, slice_set, slice_index_or, is_some, is_none, option_map, count_by}
use Rattle.uma_slabs.specs.Places.{Slab}

-- the domain of the slab, while one is in, and of each place whether it is free
pub record RoomState : Type 0 where
  pub domain : Option ℕ
  pub free : List Bool

-- the room of an index, where there is one
abbrev pub room_at : List RoomState → ℕ → RoomState
room_at rooms index = slice_index_or rooms index (record { domain = None; free = [] })

-- a room for so many places with no slab
abbrev pub empty_room : ℕ → RoomState
empty_room places = record { domain = None; free = replicate places false }

-- the slab that is in the room
abbrev pub slab_in : RoomState → Option Slab
slab_in r = option_map (λ domain. record { domain = domain; free = r.free }) r.domain

-- no slab is in
abbrev pub is_absent : RoomState → Bool
is_absent r = is_none r.domain

-- how many places are marked as free
abbrev pub free_in : RoomState → ℕ
free_in r = count_by (λ free. free) r.free

-- a slab is in, and has a free place
abbrev pub can_take : RoomState → Bool
can_take r = is_some r.domain && nat_lt 0 (free_in r)

-- a slab is in, and has a free place and a used one
abbrev pub is_partly_used : RoomState → Bool
is_partly_used r = can_take r && nat_lt (free_in r) (length r.free)

-- a slab is in, and all its places are free
abbrev pub is_wholly_free : RoomState → Bool
is_wholly_free r = is_some r.domain && free_in r == length r.free

-- the first places of a set are a room's, and no other place is a member
pub record IsRoom (places : ℕ) (free : List Bool) : Type 0 where
  pub few : places ≤ 256
  pub whole : length free ≡ 256
  pub none_past : (place : ℕ) → places ≤ place → slice_index_or free place false ≡ false

-- no room from this index on passes the test
abbrev pub NonePassFrom : (RoomState → Bool) → List RoomState → ℕ → Type 0
NonePassFrom test rooms index = (k : ℕ) (d : RoomState) → index ≤ k → k < length rooms → test (slice_index_or rooms k d) ≡ false

-- the room of this index is the first that passes the test
pub record IsFirstThat (test : RoomState → Bool) (rooms : List RoomState) (index : ℕ) : Type 0 where
  pub within : index < length rooms
  pub passes : (d : RoomState) → test (slice_index_or rooms index d) ≡ true
  pub earlier : (k : ℕ) (d : RoomState) → k < index → test (slice_index_or rooms k d) ≡ false

-- the room of this index is the last that passes the test
pub record IsLastThat (test : RoomState → Bool) (rooms : List RoomState) (index : ℕ) : Type 0 where
  pub within : index < length rooms
  pub passes : (d : RoomState) → test (slice_index_or rooms index d) ≡ true
  pub later : NonePassFrom test rooms (index + 1)

-- ---- what calls of a room ask and answer

-- how many rooms there may be, and how many places each may have
pub record IsRoomCount (rooms places : ℕ) : Type 0 where
  pub few_slabs : rooms ≤ 1024
  pub some_place : 1 ≤ places
  pub few_places : places ≤ 256

-- the room of this index has a free place
pub record MayTake (rooms : List RoomState) (index : ℕ) : Type 0 where
  pub within : index < length rooms
  pub free : IsTrue (can_take (room_at rooms index))

-- the place of the room of this index is used
pub record MayGive (rooms : List RoomState) (index place : ℕ) : Type 0 where
  pub within : index < length rooms
  pub used : slice_get (room_at rooms index).free place ≡ Some false

-- the least free place of the room is used now
pub record TakesPlace (old : RoomState) (place : ℕ) (new : RoomState) : Type 0 where
  pub free : slice_get old.free place ≡ Some true
  pub least : (lower : ℕ) → lower < place → slice_index_or old.free lower false ≡ false
  pub used : new ≡ record old { free = slice_set old.free place false }

-- and no other room changes
pub record TakesFrom (old : List RoomState) (index place : ℕ) (new : List RoomState) : Type 0 where
  pub free : slice_get (room_at old index).free place ≡ Some true
  pub least : (lower : ℕ) → lower < place → slice_index_or (room_at old index).free lower false ≡ false
  pub used : new ≡ slice_set old index (record (room_at old index) { free = slice_set (room_at old index).free place false })
