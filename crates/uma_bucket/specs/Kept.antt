-- Own: what holds of the room of a bucket.
use Rattle.std.specs.Prelude.{◌≡◌, ◌≤◌, ℕ, Bool, true, Vec, vec_len}
use Rattle.std.specs.declared.alloc.Global.{Global}
use Rattle.std.specs.Vec.{vec_capacity}
use Rattle.std.specs.List.{list_all}
use Rattle.uma_life.specs.declared.states.Outside.{Outside}

-- The size is in its range, the room for so many items was taken whole, and each item there passes the test of the bucket's kind.
pub record IsKept {T : Type 0} {g : _} (test : Outside T g → Bool) (room : Vec (Outside T g) Global) (size : ℕ) : Type 0 where
  pub least : 4 ≤ size
  pub most : size ≤ 64
  pub within : vec_len room ≤ size
  pub taken_whole : size ≤ vec_capacity room
  pub alike : list_all test room.items ≡ true
