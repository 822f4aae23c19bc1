-- Own: what contracts see of an item that somebody holds.
use Rattle.std.specs.Prelude.{ℕ}
use Rattle.uma_item.specs.declared.item.Item.{Item}
use Rattle.uma_item.specs.Item.{item_data}
use Rattle.uma_life.specs.declared.states.Live.{Live}
use Rattle.uma_life.specs.Live.{live_body, live_no}

-- its number
abbrev pub number_of : {T : Type 0} {g : _} → Live T g → ℕ
number_of held = live_no held

-- its user's data
abbrev pub data_of : {B : Type 0} {g : _} → Live (Item B) g → B
data_of held = item_data (live_body held)
