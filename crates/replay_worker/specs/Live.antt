-- The live items that a worker's slots hold (own).
use Rattle.std.specs.Prelude.{ℕ, ◌==◌, Bool, false, List, Option, Some, None, cond, count_by}
use Rattle.std.specs.List.{filter_map}
use Rattle.replay_worker.specs.declared.worker.Held.{Held}
use Rattle.replay_worker.specs.Items.{LiveItem}

-- the item of a zone, in a slot
abbrev pub holding : ℕ → LiveItem → Held
holding zone item = record { zone = zone; item = item }

-- the slot holds an item of the zone at this place
abbrev pub is_of : ℕ → Option Held → Bool
is_of z None = false
is_of z (Some it) = it.zone == z

-- how many items of the zone at this place the slots hold
abbrev pub live_count : ℕ → List (Option Held) → ℕ
live_count z slots = count_by (is_of z) slots

-- the item of a slot, if it is of the zone at this place
abbrev pub item_of : ℕ → Option Held → Option LiveItem
item_of z None = None
item_of z (Some it) = cond (it.zone == z) (Some it.item) None

-- these items, in the order of their slots
abbrev pub lives_of : ℕ → List (Option Held) → List LiveItem
lives_of z slots = filter_map (item_of z) slots
