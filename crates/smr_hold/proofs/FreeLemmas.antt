-- What the steps of a publish make of one slot.
use Rattle.std.proofs.Common.{◌≡◌, ℕ, ◌<◌, ◌≤◌, length, get_or-set_same, get_or-set_other, refl, sym, ap, ◌∙◌, subst, inl, inr}
use Rattle.std.proofs.Math.Nat.{le_refl}
use Rattle.smr_clock.specs.declared.clock.Setup.{Setup}
use Rattle.smr_clock.specs.declared.view.View.{View}
use Rattle.smr_clock.specs.SafeReuse.{KnownStaysOver}
use Rattle.smr_objects.specs.declared.cell.SlotView.{SlotView}
use Rattle.smr_objects.specs.declared.cell.CellView.{CellView}
use Rattle.smr_objects.specs.declared.objects.Part.{Part}
use Rattle.smr_objects.specs.Cells.{fresh_slot, slot_at}
use Rattle.smr_objects.specs.Steps.{with_slot}
use Rattle.smr_hold.specs.Publishing.{cell_in, slot_in, GivesStamp, IsStampOf, IsOverFrom, IsUnseen, Touches}

-- ---- one slot is changed

module _ (v w : View Part) (slot : ℕ) (f : SlotView → SlotView) (is : cell_in w ≡ with_slot slot f (cell_in v)) where
  pub changed : slot < length (cell_in v).slots → slot_in w slot ≡ f (slot_in v slot)
  changed few = ap (λ (c : CellView). slot_at c.slots slot) is ∙ get_or-set_same (cell_in v).slots slot (f (slot_in v slot)) fresh_slot few

  pub changes : slot < length (cell_in v).slots → (f (slot_in v slot)).value ≡ (slot_in v slot).value → v.holder.seen ≤ w.holder.seen → v.holder.floor ≤ w.holder.floor → Touches slot v w
  changes few same seen floor =
      record {
        records = ap (λ (c : CellView). c.records) is;
        number = ap (λ (c : CellView). c.number) is;
        value = ap (λ (x : SlotView). x.value) (changed few) ∙ same;
        others = λ n other. ap (λ (c : CellView). slot_at c.slots n) is ∙ get_or-set_other (cell_in v).slots slot n (f (slot_in v slot)) fresh_slot other;
        seen = seen;
        floor = floor;
      }

pub untouched : (slot : ℕ) (v : View Part) → Touches slot v v
untouched slot v = record { records = refl; number = refl; value = refl; others = λ n other. refl; seen = le_refl v.holder.seen; floor = le_refl v.holder.floor }

-- ---- the stamp of a slot that is closed

module _ (slot stamp read : ℕ) (v u w : View Part) (same : w.holder.seen ≡ u.holder.seen) where
  -- it is the slot's, or was given to it, whatever the cell has loaded of the read sequence since
  stamp_still : IsStampOf slot v u stamp → IsStampOf slot v w stamp
  stamp_still (inl had) = inl had
  stamp_still (inr given) =
      let g = given.1 in
      let gives : GivesStamp v w stamp = record { write = g.write; two_above = g.two_above; not_lower = g.not_lower; seen = subst (λ (n : ℕ). g.write ≤ n) (sym same) g.seen } in
      inr (given.0, gives)

  -- the cell knows the read sequence that was found, which is not below the stamp
  pub unseen_now : ((a : Setup) → KnownStaysOver Part a) → IsStampOf slot v u stamp → stamp ≤ read → w.holder.floor ≡ read → IsUnseen slot v w
  unseen_now law given expired floor =
      let known : stamp ≤ w.holder.floor = subst (λ (n : ℕ). stamp ≤ n) (sym floor) expired in
      let over : IsOverFrom w stamp = λ now following id clocked run there. law w.setup now following id w stamp clocked run there known in
      inr (stamp, stamp_still given, over)
