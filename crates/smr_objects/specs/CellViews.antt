-- What contracts see of a cell.
use Rattle.std.specs.Prelude.{ℕ}
use Rattle.smr_core.specs.declared.holder.Holder.{Holder}
use Rattle.smr_clock.specs.declared.clock.Clock.{Clock}
use Rattle.smr_clock.specs.declared.view.View.{View}
use Rattle.smr_clock.specs.Notes.{IsSeatOf, seat_knows}
use Rattle.smr_objects.specs.declared.objects.Objects.{Objects}
use Rattle.smr_objects.specs.declared.cell.CellView.{CellView}
use Rattle.smr_objects.specs.declared.cell.SlotState.{SlotState}
use Rattle.smr_objects.specs.declared.objects.Part.{Part}
use Rattle.smr_objects.specs.declared.cell.Cell.{Cell}
use Rattle.smr_objects.specs.Cells.{slot_at}
use Rattle.smr_objects.specs.Belongs.{the_cell}

abbrev pub IsCellOf : Clock Objects Part → Cell → Type 0
IsCellOf clock cell = IsSeatOf clock cell.seat

-- what the cell's seat knows
abbrev pub cell_view : Cell → View Part
cell_view cell = seat_knows cell.seat

-- of the clock's hands
abbrev pub cell_holder : Cell → Holder
cell_holder cell = (cell_view cell).holder

-- of its records and its slots
abbrev pub cell_knows : Cell → CellView
cell_knows cell = the_cell (cell_view cell).host.cells

-- the state of one of its slots
abbrev pub slot_state : Cell → ℕ → SlotState
slot_state cell slot = (slot_at (cell_knows cell).slots slot).state
