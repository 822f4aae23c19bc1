-- What a contract sees of a clock and of its passes.
use Rattle.std.specs.Prelude.{◌≡◌}
use Rattle.std.specs.Arc.{arc_value}
pub use Rattle.atomic_table.specs.Seated.{TableId}
use Rattle.atomic_table.specs.declared.shared.Seat.{Seat}
use Rattle.smr_core.specs.declared.holder.Holder.{Holder}
use Rattle.smr_clock.specs.declared.clock.Setup.{Setup}
use Rattle.smr_clock.specs.declared.view.View.{View}
use Rattle.smr_clock.specs.declared.host.Host.{Ghosts}
use Rattle.smr_clock.specs.declared.pass.Pass.{Pass}
use Rattle.smr_clock.specs.declared.clock.Clock.{Clock}

module _ {H P : Type 0} where
  -- its table: all handles of one clock have one, and no two clocks do
  abbrev pub table_of : Clock H P → TableId
  table_of clock = (arc_value clock.table).shared.table_id

  abbrev pub setup_of : Clock H P → Setup
  setup_of clock = clock.setup

  -- which clock it is, and what it was made with
  abbrev pub clock_id : Clock H P → TableId × Setup
  clock_id clock = (table_of clock, setup_of clock)

-- what a seat of a clock's table knows
abbrev pub knows : {P : Type 0} → Seat (Unit {0}) (View P) → View P
knows seat = seat.me.0

-- which clock the seat is of, and the numbers that it has
abbrev pub seat_clock : {P : Type 0} → Seat (Unit {0}) (View P) → TableId × Setup
seat_clock seat = (seat.table_id, seat.me.0.setup)

module _ {H P : Type 0} {g : Ghosts H P} where
  -- what the pass knows
  abbrev pub view : Pass H P g → View P
  view pass = pass.seat.me.0

  abbrev pub holder : Pass H P g → Holder
  holder pass = pass.seat.me.0.holder

  -- which clock the pass is of, and the numbers that it has
  abbrev pub pass_clock : Pass H P g → TableId × Setup
  pass_clock pass = (pass.seat.table_id, pass.seat.me.0.setup)

  -- the pass is of this clock, and has its numbers
  abbrev pub IsPassOf : Clock H P → Pass H P g → Type 0
  IsPassOf clock pass = pass_clock pass ≡ clock_id clock
