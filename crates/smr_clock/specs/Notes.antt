-- What contracts see of a note and of a host's seat, and what a note comes to.
use Rattle.std.specs.Prelude.{◌≡◌, ℕ}
use Rattle.atomic_table.specs.Seated.{TableId}
use Rattle.smr_core.specs.declared.holder.Holder.{Holder}
use Rattle.smr_clock.specs.declared.clock.Setup.{Setup}
use Rattle.smr_clock.specs.declared.view.View.{View}
use Rattle.smr_clock.specs.declared.host.Host.{Ghosts}
use Rattle.smr_clock.specs.declared.clock.Clock.{Clock}
use Rattle.smr_clock.specs.declared.pass.Note.{Note}
use Rattle.smr_clock.specs.declared.host.HostSeat.{HostSeat}
use Rattle.smr_clock.specs.Belongs.{table_of, setup_of, clock_id}
use Rattle.smr_clock.specs.Steps.{IsWriteFound, write_looking, note_view}

module _ {H P : Type 0} {g : Ghosts H P} where
  -- what the note knows
  abbrev pub note_knows : Note H P g → View P
  note_knows note = note.seat.me.0

  abbrev pub note_holder : Note H P g → Holder
  note_holder note = note.seat.me.0.holder

  -- which clock the note is of, and the numbers that it has
  abbrev pub note_clock : Note H P g → TableId × Setup
  note_clock note = (note.seat.table_id, note.seat.me.0.setup)

  -- the note is of this clock, and has its numbers
  abbrev pub IsNoteOf : Clock H P → Note H P g → Type 0
  IsNoteOf clock note = note_clock note ≡ clock_id clock

  -- the table of its clock
  abbrev pub note_table : Note H P g → TableId
  note_table note = note.seat.table_id

  abbrev pub seat_table : HostSeat H P g → TableId
  seat_table seat = seat.seat.table_id

  -- what the host's seat knows
  abbrev pub seat_knows : HostSeat H P g → View P
  seat_knows seat = seat.seat.me.0

  -- the seat is of this clock, and has its numbers
  abbrev pub IsSeatOf : Clock H P → HostSeat H P g → Type 0
  IsSeatOf clock seat = (seat.seat.table_id ≡ table_of clock) × (seat.seat.me.0.setup ≡ setup_of clock)

-- The pass loads the write sequence, and then a note is split off, which has seen what the pass then has seen, and has its floor.
pub record Notes {P : Type 0} (copied : P → P) (v v' note : View P) : Type 0 where
  pub write : ℕ
  pub found : IsWriteFound v.holder write
  pub after : v' ≡ write_looking v write
  pub split : note ≡ note_view copied v'
