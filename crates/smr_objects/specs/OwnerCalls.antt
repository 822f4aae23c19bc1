-- What a cell's owner gives to a call, what the call makes of the cell, and what it leaves as it was.
use Rattle.std.specs.Prelude.{◌≡◌, ◌≢◌, ℕ, ◌+◌, ◌^◌, ◌<◌, Some}
use Rattle.smr_clock.specs.declared.clock.Clock.{Clock}
use Rattle.smr_clock.specs.Belongs.{setup_of}
use Rattle.smr_clock.specs.Steps.{IsReadFound, read_looking}
use Rattle.smr_objects.specs.declared.objects.Objects.{Objects}
use Rattle.smr_objects.specs.declared.cell.SlotState.TheVariants.{Closed, Open}
use Rattle.smr_objects.specs.declared.objects.Part.{Part}
use Rattle.smr_objects.specs.declared.cell.Cell.{Cell}
use Rattle.smr_objects.specs.Belongs.{IsObjectsClock, IsOver}
use Rattle.smr_objects.specs.Cells.{current_slot, last_version}
use Rattle.smr_objects.specs.CellViews.{IsCellOf, cell_view, cell_holder, cell_knows, slot_state}
use Rattle.smr_objects.specs.Steps.{switched}

-- the cell is of this clock, which is one of objects
pub record OwnsCell (clock : Clock Objects Part) (cell : Cell) : Type 0 where
  pub here : IsCellOf clock cell
  pub objects : IsObjectsClock clock

-- and has a slot of this number
pub record OwnsSlot (clock : Clock Objects Part) (cell : Cell) (slot : ℕ) : Type 0 where
  pub here : IsCellOf clock cell
  pub objects : IsObjectsClock clock
  pub below : slot < (setup_of clock).plan.1

-- The slot is closed: nobody may read it.
pub record MayWrite (clock : Clock Objects Part) (cell : Cell) (at : ℕ) : Type 0 where
  pub slot : OwnsSlot clock cell at
  pub closed : slot_state cell at ≡ Closed

-- The slot is open and has no stamp, and there is a version above the last.
pub record MaySwitch (clock : Clock Objects Part) (cell : Cell) (at : ℕ) : Type 0 where
  pub slot : OwnsSlot clock cell at
  pub is_open : slot_state cell at ≡ Open
  pub low : last_version (cell_knows cell).records + 1 < 2 ^ 44

-- The slot's stamp has expired, as the cell knows.
pub record MayClose (clock : Clock Objects Part) (cell : Cell) (at : ℕ) : Type 0 where
  pub slot : OwnsSlot clock cell at
  pub over : IsOver (cell_holder cell).floor (slot_state cell at)

-- The slot is neither closed nor the current one.
pub record MayStamp (clock : Clock Objects Part) (cell : Cell) (at : ℕ) : Type 0 where
  pub slot : OwnsSlot clock cell at
  pub unclosed : slot_state cell at ≢ Closed
  pub withdrawn : current_slot (cell_knows cell).records ≢ Some at

-- ---- what stays

-- all that the cell knows of the clock's hands
pub record KeepsHands (clock : Clock Objects Part) (old new : Cell) : Type 0 where
  pub here : IsCellOf clock new
  pub holder : cell_holder new ≡ cell_holder old

-- its records and its slots
pub record KeepsSlots (clock : Clock Objects Part) (old new : Cell) : Type 0 where
  pub here : IsCellOf clock new
  pub cell : cell_knows new ≡ cell_knows old

-- ---- what a call makes

-- The slot is the current one, with this version. The former one is open: it has no stamp yet.
pub record SwitchesTo (slot : ℕ) (old : Cell) (version : ℕ) (new : Cell) : Type 0 where
  pub next : version ≡ last_version (cell_knows old).records + 1
  pub cell : cell_knows new ≡ switched slot (cell_knows old)
  pub former : (n : ℕ) → current_slot (cell_knows old).records ≡ Some n → slot_state old n ≡ Open

-- The cell knows the read sequence that it loaded.
pub record FindsRead (old : Cell) (read : ℕ) (new : Cell) : Type 0 where
  pub found : IsReadFound (cell_holder old) read
  pub holder : cell_holder new ≡ (read_looking (cell_view old) read).holder
  pub floor : (cell_holder new).floor ≡ read
