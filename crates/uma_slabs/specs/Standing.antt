-- The standings of a keg's slabs: which are partly used, which wholly free, and which aren't in.
use Rattle.std.specs.Prelude.{◌≡◌, ℕ, ◌-◌, ◌<◌, ◌≤◌, ◌⊎◌, ◌++◌, Bool, true, false, List, map, length, replicate, slice_index_or, slice_set, All}
use Rattle.uma_slabs.specs.Room.{RoomState, is_absent, can_take, is_partly_used, is_wholly_free, NonePassFrom}

-- of each number below 1,024 whether it is the index of a room that passes the test
abbrev pub standing : (RoomState → Bool) → List RoomState → List Bool
standing test rooms = map test rooms ++ replicate (1024 - length rooms) false

-- the three sets are the slabs' standings, by the sets of their free places
pub record AreStandings (rooms : List RoomState) (partly whole gone : List Bool) : Type 0 where
  pub few : length rooms ≤ 1024
  pub places : All (λ room. 1 ≤ length room.free) rooms
  pub partly_used : partly ≡ standing is_partly_used rooms
  pub wholly_free : whole ≡ standing is_wholly_free rooms
  pub absent : gone ≡ standing is_absent rooms

-- the room of this index can be taken from, and is partly used, or none is
pub record IsChosen (rooms : List RoomState) (index : ℕ) : Type 0 where
  pub within : index < length rooms
  pub can : (d : RoomState) → can_take (slice_index_or rooms index d) ≡ true
  pub preferred : ((d : RoomState) → is_partly_used (slice_index_or rooms index d) ≡ true) ⊎ NonePassFrom is_partly_used rooms 0

-- the sets have the standing of the room now
pub record Marks (index : ℕ) (room : RoomState) (partly partly' whole whole' gone gone' : List Bool) : Type 0 where
  pub partly_used : partly' ≡ slice_set partly index (is_partly_used room)
  pub wholly_free : whole' ≡ slice_set whole index (is_wholly_free room)
  pub absent : gone' ≡ slice_set gone index (is_absent room)
