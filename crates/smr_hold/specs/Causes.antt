-- The causes for which no slot could be used, by slot.
use Rattle.std.specs.Prelude.{ℕ, slice_index_or}
use Rattle.smr_hold.specs.declared.publishing.SlotCause.{SlotCause}
use Rattle.smr_hold.specs.declared.publishing.SlotCause.TheVariants.{Current}
use Rattle.smr_hold.specs.declared.publishing.SlotCauses.{SlotCauses}

abbrev pub cause_at : SlotCauses → ℕ → SlotCause
cause_at causes slot = slice_index_or causes.causes slot Current
