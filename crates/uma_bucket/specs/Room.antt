-- Own: what lies in the room of a bucket: items outside their keg, cached ones or freed ones.
use Rattle.std.specs.Prelude.{ℕ, Bool, not, Option, Some, None}
use Rattle.uma_life.specs.declared.states.Live.{Live}
use Rattle.uma_life.specs.declared.states.Outside.{Outside}
use Rattle.uma_life.specs.Hook.{Hook}
pub use Rattle.uma_life.specs.Outside.{cached_in}
use Rattle.uma_life.specs.Outside.{is_live, live_in, outside_tally}
use Rattle.uma_life.specs.Sum.{times_of}
use Rattle.uma_bucket.specs.declared.freed.Freed.{Freed}

module _ {T : Type 0} {g : _} where
  abbrev pub is_cached : Outside T g → Bool
  is_cached item = not (is_live item)

  -- a freed item is built still
  abbrev pub is_freed : Outside T g → Bool
  is_freed item = is_live item

  abbrev pub freed_of : Option (Live T g) → Option (Freed T g)
  freed_of (Some live) = Some (record { live = live })
  freed_of None = None

  -- the freed item that lies there, if it is one
  abbrev pub freed_in : Outside T g → Option (Freed T g)
  freed_in item = freed_of (live_in item)

  -- how often the item that lies there passed a hook
  abbrev pub times_held : Hook → Outside T g → ℕ
  times_held hook item = times_of (outside_tally item) hook
