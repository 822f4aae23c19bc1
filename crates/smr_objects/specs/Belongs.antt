-- What contracts see of a clock of objects and of its cells.
use Rattle.std.specs.Prelude.{ℕ, ◌≤◌, ◌<◌, List, [], ◌∷◌, Bool, true, false, Option, Some, None}
use Rattle.smr_clock.specs.declared.clock.Setup.{Setup}
use Rattle.smr_clock.specs.declared.clock.Clock.{Clock}
use Rattle.smr_clock.specs.Belongs.{table_of, setup_of}
use Rattle.smr_objects.specs.declared.cell.SlotView.{SlotView}
use Rattle.smr_objects.specs.declared.cell.CellView.{CellView}
use Rattle.smr_objects.specs.declared.cell.SlotState.{SlotState}
use Rattle.smr_objects.specs.declared.cell.SlotState.TheVariants.{Closed, Stamped}
use Rattle.smr_objects.specs.Cells.{cell_place, fresh_cell}
use Rattle.smr_objects.specs.ObjectsLaw.{IsPlan}

-- the counts are in range, and there is a word for each
pub record FitsObjects (a : Setup) (words : ℕ) : Type 0 where
  pub seats : a.config.seats ≤ 64
  pub plan : IsPlan a.plan.0 a.plan.1
  pub room : cell_place a a.plan.0 ≤ words

module _ {H P : Type 0} where
  abbrev pub IsObjectsClock : Clock H P → Type 0
  IsObjectsClock clock = FitsObjects (setup_of clock) (table_of clock).words

  -- the clock is one of objects, and has a cell of this number
  pub record HasCell (clock : Clock H P) (cell : ℕ) : Type 0 where
    pub objects : IsObjectsClock clock
    pub cell_below : cell < (setup_of clock).plan.0

  -- and a slot of this number in it
  pub record HasSlot (clock : Clock H P) (cell slot : ℕ) : Type 0 where
    pub objects : IsObjectsClock clock
    pub cell_below : cell < (setup_of clock).plan.0
    pub slot_below : slot < (setup_of clock).plan.1

-- the first cell that a seat has
abbrev pub the_cell : List CellView → CellView
the_cell [] = fresh_cell 0
the_cell (v ∷ rest) = v

abbrev pub state_of : SlotView → SlotState
state_of x = x.state

abbrev pub is_closed : SlotState → Bool
is_closed Closed = true
is_closed _ = false

abbrev pub stamp_of : SlotState → Option ℕ
stamp_of (Stamped stamp) = Some stamp
stamp_of _ = None

-- the slot has a stamp, and the read sequence is known to have come to it
abbrev pub IsOver : ℕ → SlotState → Type 0
IsOver floor (Stamped stamp) = stamp ≤ floor
IsOver floor _ = ⊥
