-- Own: a law of the frees of a seat whose zone's readers hold no lock. A freed item waits in a bucket whose goal is made later than its own free.
use Rattle.std.specs.Prelude.{◌≡◌, ℕ, Bool, true, false, List, [], ◌∷◌, map, slice_set}
use Rattle.std.specs.List.{All, Contains}
use Rattle.smr_clock.specs.declared.host.Host.{Ghosts as HostGhosts}
use Rattle.smr_clock.specs.declared.view.View.{View}
use Rattle.uma_life.specs.declared.hooks.Body.{Ghosts}
use Rattle.uma_life.specs.declared.states.Live.{Live}
use Rattle.uma_life.specs.Live.{live_domain}
use Rattle.uma_bucket.specs.declared.freed.Sealed.{Sealed}
use Rattle.uma_bucket.specs.declared.shelved.Shelved.TheVariants.{Sealed as Sealed'}
use Rattle.uma_bucket.specs.Freed.{freed_item}
use Rattle.uma_bucket.specs.Loose.{loose_items}
use Rattle.uma_bucket.specs.Sealed.{Seals}
use Rattle.uma_seat.specs.declared.seat.SeatCache.{SeatCache}
use Rattle.uma_seat.specs.Freeing.{ShelvesFreed}
use Rattle.uma_seat.specs.Seat.{freed_of}
use Rattle.uma_seat.specs.Stack.{Stack, stack_at, with_item, is_filled_by_one}

module _ {T H P : Type 0} {g h : _} where
  -- whether this item fills the bucket of the deferred ones of its domain, and that bucket with the item on top
  abbrev pub is_filled_by : SeatCache T H P g h → Live T g → Bool
  is_filled_by seat live = is_filled_by_one (stack_at (freed_of seat) (live_domain live))

  abbrev pub with_freed : SeatCache T H P g h → Live T g → Stack (Live T g)
  with_freed seat live = with_item (stack_at (freed_of seat) (live_domain live)) live

-- One call of `free_smr` on a seat, as its clauses `put` and `full` tell it: the item, and the seat and the pass's view before it and after it.
pub record SmrFree (T H P : Type 0) (g h : _) (copied : P → P) : Type 0 where
  pub live : Live T g
  pub old : SeatCache T H P g h
  pub new : SeatCache T H P g h
  pub v : View P
  pub v' : View P
  pub put : is_filled_by old live ≡ false → freed_of new ≡ slice_set (freed_of old) (live_domain live) (with_freed old live)
  pub full : is_filled_by old live ≡ true → ShelvesFreed copied v old (live_domain live) (with_freed old live) new v'

module _ {T H P : Type 0} {g h : _} where
  -- These are all the frees of a seat so far, the last one first, and what is deferred there after them. Before the first nothing was, as on a new seat (`IsFresh`); every other call leaves it (`KeepsFreed`).
  abbrev pub FreesSoFar : (copied : P → P) → List (SmrFree T H P g h copied) → List (Stack (Live T g)) → Type 0
  FreesSoFar copied [] deferred = All (λ stack. stack.items ≡ []) deferred
  FreesSoFar copied (free ∷ before) deferred = (deferred ≡ freed_of free.new) × FreesSoFar copied before (freed_of free.old)

  -- the items that they freed
  abbrev pub lives_of : (copied : P → P) → List (SmrFree T H P g h copied) → List (Live T g)
  lives_of copied frees = map (λ (free : SmrFree T H P g h copied). free.live) frees

  -- The bucket that a free filled: each of its items was freed by this free or by one before it. Where it is sealed, its goal is of an advance that the pass made in this free, with all these items in it.
  pub record WaitsForLater (copied : P → P) (free : SmrFree T H P g h copied) (before : List (SmrFree T H P g h copied)) (shelves : ShelvesFreed copied free.v free.old (live_domain free.live) (with_freed free.old free.live) free.new free.v') : Type 0 where
    pub freed : (item : Live T g) → Contains (map freed_item (loose_items shelves.loose)) item → Contains (lives_of copied (free ∷ before)) item
    pub goal : (number : ℕ) (sealed : Sealed T H P g h) → shelves.newest ≡ Sealed' number sealed → Seals copied free.v shelves.loose sealed free.v'

-- So an item's bucket gets its goal no earlier than in the item's own free. What stays loose then is sealed by a later try (`TriesLoseNone`), and what is found ripe waited for just that goal (`ReuseLaw`).
abbrev pub GoalsAreLater : (T H P : Type 0) (g : Ghosts T) (h : HostGhosts H P) → Type 0
GoalsAreLater T H P g h =
    (copied : P → P) (free : SmrFree T H P g h copied) (before : List (SmrFree T H P g h copied))
    (shelves : ShelvesFreed copied free.v free.old (live_domain free.live) (with_freed free.old free.live) free.new free.v') → FreesSoFar copied before (freed_of free.old) → WaitsForLater copied free before shelves
