-- What a slot's stamp means: no slot is written while a section is open whose entry mark is below the slot's stamp. Own; that a goal two above the write sequence is above the mark of each section then open is the rule of the comment on FreeBSD's subr_smr.c.
use Rattle.std.specs.Prelude.{◌≡◌, ℕ, ◌⊎◌}
use mathlib.Core.Option.{some}
use lib.ListN.{get_elem?}
use Rattle.smr_core.specs.ClockState.{IsInSection, IsBefore}
use Rattle.smr_clock.specs.declared.clock.Setup.{Setup}
use Rattle.smr_clock.specs.declared.view.View.{View}
use Rattle.smr_clock.specs.Moments.{Moment}
use Rattle.smr_clock.specs.SafeReuse.{KnownStaysOver}
use Rattle.smr_objects.specs.declared.cell.CellView.{CellView}
use Rattle.smr_objects.specs.declared.cell.SlotState.{SlotState}
use Rattle.smr_objects.specs.declared.cell.SlotState.TheVariants.{Closed, Stamped}
use Rattle.smr_objects.specs.declared.objects.Part.{Part}
use Rattle.smr_objects.specs.Belongs.{IsOver}
use Rattle.smr_objects.specs.Cells.{In, slot_at}
use Rattle.smr_objects.specs.ObjectsLaw.{Objected}

-- The owner of a slot may write it, as `write_value` asks, or close it first, as `close_slot` asks: the slot is closed, or the owner, which knows this floor of the read sequence, knows that its stamp is expired.
abbrev pub MayBeWritten : ℕ → SlotState → Type 0
MayBeWritten floor state = (state ≡ Closed) ⊎ IsOver floor state

-- At each moment at which the law holds: while a section is open whose mark is below the stamp of a slot, the slot's owner may neither write nor close it.
abbrev pub StampedSlotsStand : Type 0
StampedSlotsStand =
    (a : Setup) (now : Moment Part) (owner reader : ℕ) (v w : View Part) (c : CellView) (slot stamp mark : ℕ)
    → Objected a now.0 now.1 → get_elem? now.1 owner ≡ some v → In c v.host.cells → (slot_at c.slots slot).state ≡ Stamped stamp
    → get_elem? now.1 reader ≡ some w → IsInSection w.holder mark → IsBefore mark stamp
    → MayBeWritten v.holder.floor (slot_at c.slots slot).state → ⊥

-- The first holds until the slot is closed. The second holds from then on, so where it is written too: from the moment on at which its owner knows that the stamp is expired, over every run of steps, no section is open whose mark is below the stamp.
pub record StampsStand : Type 0 where
  pub stamped : StampedSlotsStand
  pub over : (a : Setup) → KnownStaysOver Part a
