-- How a clock of objects begins, and when it is refused.
use Rattle.std.specs.Prelude.{◌≡◌, ℕ, ◌-◌, ◌<◌, ◌≤◌, ◌⊎◌, List, length}
use mathlib.Core.Option.{some}
use lib.ListN.{get_elem?}
use Rattle.smr_core.specs.declared.clock_core.ClockConfig.{ClockConfig}
use Rattle.smr_core.specs.Making.{RefusesNumbers}
use Rattle.smr_clock.specs.declared.clock.Clock.{Clock}
use Rattle.smr_clock.specs.declared.host.Host.{Ghosts}
use Rattle.smr_clock.specs.declared.host.HostSeat.{HostSeat}
use Rattle.smr_clock.specs.declared.pass.Pass.{Pass}
use Rattle.smr_clock.specs.declared.clock.Setup.{Setup}
use Rattle.smr_clock.specs.Belongs.{setup_of}
use Rattle.smr_clock.specs.Making.{AreWorkers}
use Rattle.smr_clock.specs.Notes.{IsSeatOf, seat_knows}
use Rattle.smr_objects.specs.declared.objects.Objects.{Objects}
use Rattle.smr_objects.specs.declared.hold.HoldRefused.{HoldRefused}
use Rattle.smr_objects.specs.declared.hold.HoldRefused.TheVariants.{Cells, Slots, Clock as ClockNumber, Memory}
use Rattle.smr_objects.specs.declared.objects.Part.{Part}
use Rattle.smr_objects.specs.declared.cell.Cell.{Cell}
use Rattle.smr_core.specs.ClockState.{IsInRange}
use Rattle.smr_objects.specs.Cells.{first_part, fresh_cell, cells_from, told}
use Rattle.smr_objects.specs.ObjectsLaw.{IsPlan}
use Rattle.smr_objects.specs.Belongs.{IsObjectsClock}
use Rattle.smr_objects.specs.CellViews.{IsCellOf, cell_knows}

-- the first test that fails, in this order
abbrev pub RefusesObjects : ClockConfig → ℕ → ℕ → HoldRefused → Type 0
RefusesObjects a cells slots (Cells n) = (n ≡ cells) × ((cells < 1) ⊎ (4096 < cells))
RefusesObjects a cells slots (Slots n) = (1 ≤ cells) × (cells ≤ 4096) × (n ≡ slots) × ((slots < 2) ⊎ (16 < slots))
RefusesObjects a cells slots (ClockNumber refused) = IsPlan cells slots × RefusesNumbers a refused
RefusesObjects a cells slots Memory = IsPlan cells slots × IsInRange a

-- all numbers are in range
pub record AreInRange (a : ClockConfig) (cells slots : ℕ) : Type 0 where
  pub plan : IsPlan cells slots
  pub clock : IsInRange a

-- the cell of this number, of this clock, with no record and all slots closed
abbrev pub IsOpenCell : Clock Objects Part → ℕ → Cell → Type 0
IsOpenCell clock n cell = IsCellOf clock cell × (cell_knows cell ≡ fresh_cell n)

-- the cells from 0 on, in order
abbrev pub AreOpenCells : Clock Objects Part → List Cell → Type 0
AreOpenCells clock cells = (n : ℕ) (cell : Cell) → get_elem? cells n ≡ some cell → IsOpenCell clock n cell

-- one for each cell of the plan
pub record AreAllCells (clock : Clock Objects Part) (cells : List Cell) : Type 0 where
  pub long : length cells ≡ (setup_of clock).plan.0
  pub each : AreOpenCells clock cells

module _ {g : Ghosts Objects Part} where
  -- the seat is of this clock, and has the cells from this number on
  pub record HasCellsFrom (clock : Clock Objects Part) (first : ℕ) (seat : HostSeat Objects Part g) : Type 0 where
    pub here : IsSeatOf clock seat
    pub cells : (seat_knows seat).host.cells ≡ cells_from first ((setup_of clock).plan.0 - first)

  -- the clock as it was asked for, its passes and its cells
  pub record Opened (a : Setup) (clock : Clock Objects Part) (workers : List (Pass Objects Part g)) (all : List Cell) : Type 0 where
    pub as_asked : setup_of clock ≡ a
    pub objects : IsObjectsClock clock
    pub passes : AreWorkers clock told (first_part a) workers
    pub long : length all ≡ a.plan.0
    pub cells : AreOpenCells clock all
