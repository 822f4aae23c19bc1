-- Own: how a keg's items at home and the buried are summed up.
use Rattle.std.specs.Prelude.{◌≡◌, ◌<◌, ◌+◌, ◌/◌, ◌^◌, ℕ}
use Rattle.uma_life.specs.declared.tally.TallySum.{TallySum}
use Rattle.uma_life.specs.Hook.{Hook}
use Rattle.uma_life.specs.Sum.{sum_of, AreBelow}
use Rattle.uma_keg.specs.declared.home_items.HomeItems.{HomeItems}
use Rattle.uma_keg.specs.declared.keg.Keg.{Keg}
use Rattle.uma_keg.specs.HomeItems.{item_at, slab_room, places_each}
use Rattle.uma_keg.specs.Tallies.{home_times}
use Rattle.uma_keg.specs.Keg.{total_in}

-- the sums are those of the keg, and far from their end
pub record AreTotals {T K : Type 0} {g : _} {h : _} (keg : Keg T K g h) (sums : TallySum) : Type 0 where
  pub totals : (hook : Hook) → sum_of sums hook ≡ total_in keg hook
  pub below : AreBelow (2 ^ 121) sums

-- the number is one of the keg, and the sums have room for an item
pub record MayAddHome {T : Type 0} {g : _} (home_items : HomeItems T g) (no : ℕ) (sums : TallySum) : Type 0 where
  pub within : no / places_each home_items < slab_room home_items
  pub room : AreBelow (2 ^ 127) sums

-- the tally of the item of a number is added, if it is at home
pub record AddsHome {T : Type 0} {g : _} (home_items : HomeItems T g) (no : ℕ) (old new : TallySum) : Type 0 where
  pub sums : (hook : Hook) → sum_of new hook ≡ sum_of old hook + home_times hook (item_at home_items no)
  pub counts : (hook : Hook) → home_times hook (item_at home_items no) < 2 ^ 64
