-- What a publish comes to: what becomes of each slot that it tries, and what it publishes where.
use Rattle.std.specs.Prelude.{◌≡◌, ◌≢◌, ℕ, ◌+◌, ◌-◌, ◌^◌, ◌<◌, ◌≤◌, ◌⊎◌, List, ◌∷◌, Option, Some}
use mathlib.Core.Option.{some}
use lib.ListN.{get_elem?}
use Rattle.smr_clock.specs.declared.clock.Clock.{Clock}
use Rattle.smr_clock.specs.declared.view.View.{View}
use Rattle.smr_clock.specs.Clocked.{Clocked}
use Rattle.smr_clock.specs.Moments.{Moment, Run}
use Rattle.smr_clock.specs.SafeReuse.{StaysOver}
use Rattle.smr_objects.specs.declared.objects.Objects.{Objects}
use Rattle.smr_objects.specs.declared.cell.Cell.{Cell}
use Rattle.smr_objects.specs.declared.cell.Record.{Record}
use Rattle.smr_objects.specs.declared.cell.SlotView.{SlotView}
use Rattle.smr_objects.specs.declared.cell.CellView.{CellView}
use Rattle.smr_objects.specs.declared.cell.SlotState.TheVariants.{Closed, Open, Stamped}
use Rattle.smr_objects.specs.declared.objects.Part.{Part}
use Rattle.smr_objects.specs.Belongs.{the_cell}
use Rattle.smr_objects.specs.Cells.{current_slot, last_version, slot_at}
use Rattle.smr_objects.specs.CellViews.{cell_knows, slot_state}
use Rattle.smr_objects.specs.OwnerCalls.{OwnsSlot}
use Rattle.smr_hold.specs.declared.publishing.SlotCause.{SlotCause}
use Rattle.smr_hold.specs.declared.publishing.SlotCause.TheVariants.{Current, Unripe, Held}
use Rattle.smr_hold.specs.declared.publishing.PublishRefused.{PublishRefused}
use Rattle.smr_hold.specs.declared.publishing.PublishRefused.TheVariants.{Worn, Crowded}
use Rattle.smr_hold.specs.Causes.{cause_at}

-- what a cell's seat knows of its cell, and of one slot
abbrev pub cell_in : View Part → CellView
cell_in v = the_cell v.host.cells

abbrev pub slot_in : View Part → ℕ → SlotView
slot_in v slot = slot_at (cell_in v).slots slot

abbrev pub current_in : View Part → Option ℕ
current_in v = current_slot (cell_in v).records

-- The stamp was the slot's, or was given to it in this call: two above a write sequence that wasn't below what the cell had seen before, and that it has seen after.
pub record GivesStamp (v w : View Part) (stamp : ℕ) : Type 0 where
  pub write : ℕ
  pub two_above : stamp ≡ write + 2
  pub not_lower : v.holder.seen ≤ write
  pub seen : write ≤ w.holder.seen

abbrev pub IsStampOf : ℕ → View Part → View Part → ℕ → Type 0
IsStampOf slot v w stamp = ((slot_in v slot).state ≡ Stamped stamp) ⊎ (((slot_in v slot).state ≡ Open) × GivesStamp v w stamp)

-- At most this slot is changed: not its value, nor the records and the other slots, and no hand that is known is lower.
pub record Touches (slot : ℕ) (v w : View Part) : Type 0 where
  pub records : (cell_in w).records ≡ (cell_in v).records
  pub number : (cell_in w).number ≡ (cell_in v).number
  pub value : (slot_in w slot).value ≡ (slot_in v slot).value
  pub others : (n : ℕ) → n ≢ slot → slot_in w n ≡ slot_in v n
  pub seen : v.holder.seen ≤ w.holder.seen
  pub floor : v.holder.floor ≤ w.holder.floor

-- the slot has this stamp, which it had or was given
pub record SettlesStamp (slot : ℕ) (v w : View Part) (stamp : ℕ) : Type 0 where
  pub touches : Touches slot v w
  pub stamped : (slot_in w slot).state ≡ Stamped stamp
  pub closings : (slot_in w slot).closings ≡ (slot_in v slot).closings
  pub origin : IsStampOf slot v w stamp

-- Why the slot wasn't used. Current: it is the current one, and is as it was. Unripe: the read sequence found in this call is below its stamp. Held: in this call one closing of it was tried more, which found so many holds.
abbrev pub CauseIs : ℕ → SlotCause → View Part → View Part → Type 0
CauseIs slot Current v w = (current_in v ≡ Some slot) × (slot_in w slot ≡ slot_in v slot)
CauseIs slot (Unripe read stamp) v w =
    (read < stamp) × (v.holder.floor ≤ read) × (read ≤ w.holder.floor) × ((slot_in w slot).state ≡ Stamped stamp)
    × ((slot_in w slot).closings ≡ (slot_in v slot).closings) × IsStampOf slot v w stamp × (current_in v ≢ Some slot)
CauseIs slot (Held holds) v w =
    (1 ≤ holds) × ((slot_in w slot).closings ≡ (slot_in v slot).closings + 1) × ((slot_in w slot).found ≡ holds) × (current_in v ≢ Some slot)

-- one slot waits, for this cause
pub record SlotWaits (slot : ℕ) (cause : SlotCause) (v w : View Part) : Type 0 where
  pub touches : Touches slot v w
  pub because : CauseIs slot cause v w

-- From each moment on at which the cell's seat knows this much, over every run of steps, no section is open whose mark is below the stamp.
abbrev pub IsOverFrom : View Part → ℕ → Type 0
IsOverFrom knows stamp =
    (now : Moment Part) (following : List (Moment Part)) (id : ℕ)
    → Clocked knows.setup now.0 now.1 → Run knows.setup now following → get_elem? now.1 id ≡ some knows → StaysOver now following stamp

-- The slot was closed before, or is closed now that no section is open whose mark is below its stamp, by the law of stamps (smr_objects, `stamped_slots_stand`).
abbrev pub IsUnseen : ℕ → View Part → View Part → Type 0
IsUnseen slot v w = ((slot_in v slot).state ≡ Closed) ⊎ ((stamp : ℕ) × IsStampOf slot v w stamp × IsOverFrom w stamp)

-- one slot, which isn't the current one, is closed
pub record SlotFrees (slot : ℕ) (v w : View Part) : Type 0 where
  pub touches : Touches slot v w
  pub closed : (slot_in w slot).state ≡ Closed
  pub idle : current_in v ≢ Some slot
  pub unseen : IsUnseen slot v w

-- The slots below k wait, each for its cause. No value, no record and no other slot is changed.
pub record Waits (k : ℕ) (causes : ℕ → SlotCause) (v w : View Part) : Type 0 where
  pub records : (cell_in w).records ≡ (cell_in v).records
  pub number : (cell_in w).number ≡ (cell_in v).number
  pub values : (n : ℕ) → (slot_in w n).value ≡ (slot_in v n).value
  pub each : (n : ℕ) → n < k → CauseIs n (causes n) v w
  pub others : (n : ℕ) → k ≤ n → slot_in w n ≡ slot_in v n
  pub seen : v.holder.seen ≤ w.holder.seen
  pub floor : v.holder.floor ≤ w.holder.floor

-- ---- the publish

-- the record that is published
abbrev pub published : ℕ → ℕ → CellView → Record
published slot value c = record { cell = c.number; version = last_version c.records + 1; slot = slot; value = value }

-- The slot is closed and isn't the current one, and the cell isn't worn.
pub record MayPut (clock : Clock Objects Part) (cell : Cell) (at : ℕ) : Type 0 where
  pub slot : OwnsSlot clock cell at
  pub closed : slot_state cell at ≡ Closed
  pub idle : current_slot (cell_knows cell).records ≢ Some at
  pub low : last_version (cell_knows cell).records + 1 < 2 ^ 44

-- The value is in the slot, which is open and the current one; the former one is stamped in this call. Nothing else is changed.
pub record Puts (slot value : ℕ) (v w : View Part) : Type 0 where
  pub records : (cell_in w).records ≡ published slot value (cell_in v) ∷ (cell_in v).records
  pub number : (cell_in w).number ≡ (cell_in v).number
  pub opens : (slot_in w slot).state ≡ Open
  pub value_in : (slot_in w slot).value ≡ value
  pub former : (f : ℕ) → current_in v ≡ Some f → (stamp : ℕ) × ((slot_in w f).state ≡ Stamped stamp) × GivesStamp v w stamp × ((slot_in w f).value ≡ (slot_in v f).value)
  pub others : (n : ℕ) → n ≢ slot → current_in v ≢ Some n → slot_in w n ≡ slot_in v n
  pub seen : v.holder.seen ≤ w.holder.seen
  pub floor : v.holder.floor ≤ w.holder.floor

-- and its version is the next
pub record PutsNext (slot value : ℕ) (v : View Part) (version : ℕ) (w : View Part) : Type 0 where
  pub next : version ≡ last_version (cell_in v).records + 1
  pub puts : Puts slot value v w

-- the first slot that doesn't wait is closed
pub record FindsFree (slots slot : ℕ) (v w : View Part) : Type 0 where
  pub below : slot < slots
  pub causes : ℕ → SlotCause
  pub before : View Part
  pub waits : Waits slot causes v before
  pub frees : SlotFrees slot before w

-- The value is published in the first slot that doesn't wait. The slots before it wait.
pub record Publishes (slots value version : ℕ) (v w : View Part) : Type 0 where
  pub slot : ℕ
  pub next : version ≡ last_version (cell_in v).records + 1
  pub between : View Part
  pub finds : FindsFree slots slot v between
  pub puts : Puts slot value between w

-- Worn exactly at the greatest version: nothing is changed. Else crowded: every slot waits, each for its cause.
abbrev pub RefusesPublish : ℕ → View Part → View Part → PublishRefused → Type 0
RefusesPublish slots v w (Worn version) = (version ≡ 2 ^ 44 - 1) × (last_version (cell_in v).records ≡ version) × (w ≡ v)
RefusesPublish slots v w (Crowded causes) = (last_version (cell_in v).records + 1 < 2 ^ 44) × (causes.count ≡ slots) × Waits slots (cause_at causes) v w
