-- Own: what contracts see of an item that carries its trail.
use Rattle.std.specs.Prelude.{ℕ, List}
use Rattle.uma_life.specs.Life.{Life}
use Rattle.uma_life.specs.declared.tally.Tally.{Tally}
use Rattle.uma_life.specs.declared.tally.ZoneTally.{ZoneTally}
use Rattle.uma_item.specs.declared.item.Item.{Item}
use Rattle.uma_item.specs.declared.trail.Trailed.{Trailed}
use Rattle.uma_item.specs.declared.item.StayCounts.{StayCounts}
use Rattle.uma_item.specs.Counts.{counts_by, kept_stays, tally_by}

-- the data with its trail
abbrev pub item_whole : {B : Type 0} → Item B → Trailed B
item_whole item = item.whole.value

-- the user's data
abbrev pub item_data : {B : Type 0} → Item B → B
item_data item = (item_whole item).data

-- the kept counts of the secondary zones: none where the item has no box
abbrev pub item_stays : {B : Type 0} → Item B → List StayCounts
item_stays item = kept_stays (item_whole item).stays

abbrev pub item_counts : {B : Type 0} → Item B → ℕ → ZoneTally
item_counts item zone = counts_by (item_whole item).phase (item_whole item).ctors (item_stays item) zone

abbrev pub item_tally : {B : Type 0} → Item B → Tally
item_tally item = tally_by (item_whole item).phase (item_whole item).ctors (item_stays item)

-- the item's life: its number, its phase, and its tally
abbrev pub item_life : {B : Type 0} → Item B → Life
item_life item = record { no = (item_whole item).no; phase = (item_whole item).phase; tally = item_tally item }
