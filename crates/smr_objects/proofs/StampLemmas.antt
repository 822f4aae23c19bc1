-- No slot is written while a section is open whose mark is below its stamp.
use Rattle.std.proofs.Common.{◌≡◌, ℕ, ◌≤◌, ◌<◌, inl, inr, subst, arith}
use Rattle.smr_core.specs.ClockState.{read_hand}
use Rattle.smr_core.proofs.KindLemmas.{marks_above_read}
use Rattle.smr_clock.specs.Views.{holders_of}
use Rattle.smr_clock.proofs.Kept.{holder_there}
use Rattle.smr_clock.proofs.ReuseLemmas.{known-stays-over}
use Rattle.smr_objects.specs.declared.cell.SlotState.{SlotState}
use Rattle.smr_objects.specs.declared.cell.SlotState.TheVariants.{Closed, Stamped}
use Rattle.smr_objects.specs.StampsStand.{MayBeWritten, StampedSlotsStand, StampsStand}

unclosed : (stamp : ℕ) → Stamped stamp ≡ Closed → ⊥
unclosed stamp is = cc

-- a stamp that the owner may pass over is at most the read sequence, which is at most each mark
not_written : (floor read mark stamp : ℕ) → floor ≤ read → read ≤ mark → mark < stamp → MayBeWritten floor (Stamped stamp) → ⊥
not_written floor read mark stamp known above before (inl closed) = unclosed stamp closed
not_written floor read mark stamp known above before (inr over) = absurd (omega (arith, over))

pub stamped-slots-stand : StampedSlotsStand
stamped-slots-stand a now owner reader v w c slot stamp mark held here has is there inside before may =
    let law = held.clock.law in
    let at : w.holder.mark ≡ mark = inside.1 in
    let above : read_hand now.0 ≤ w.holder.mark = marks_above_read a.config now.0 (holders_of now.1) reader w.holder w.holder law reader w.holder (holder_there a now.1 reader w w there) inside.0 in
    let known : v.holder.floor ≤ read_hand now.0 = (law.holders owner v.holder (holder_there a now.1 owner v v here)).floor in
    not_written v.holder.floor (read_hand now.0) mark stamp known (omega arith) before (subst (λ (s : SlotState). MayBeWritten v.holder.floor s) is may)

pub stamps-stand : StampsStand
stamps-stand = record { stamped = stamped-slots-stand; over = λ a. known-stays-over a }
