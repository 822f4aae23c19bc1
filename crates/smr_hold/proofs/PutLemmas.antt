-- What the steps of a publish come to together.
use Rattle.std.proofs.Common.{◌≡◌, ◌≢◌, ℕ, ◌+◌, ◌<◌, ◌≤◌, ◌∷◌, length, get_or-set_other, refl, sym, ap, ◌∙◌, subst, arith, Some, le_trans}
use Rattle.std.proofs.Math.Nat.{le-max_left, le-max_right}
use Rattle.smr_core.specs.declared.holder.Holder.{Holder}
use Rattle.smr_clock.specs.declared.view.View.{View}
use Rattle.smr_objects.specs.declared.cell.SlotView.{SlotView}
use Rattle.smr_objects.specs.declared.cell.CellView.{CellView}
use Rattle.smr_objects.specs.declared.cell.SlotState.TheVariants.{Closed, Open, Stamped}
use Rattle.smr_objects.specs.declared.objects.Part.{Part}
use Rattle.smr_objects.specs.Cells.{fresh_slot, slot_at, current_slot, last_version}
use Rattle.smr_objects.specs.Stamping.{StampsSlot}
use Rattle.smr_objects.specs.Steps.{with_slot, valued, opened, stamped, switched}
use Rattle.smr_hold.specs.Publishing.{cell_in, slot_in, current_in, GivesStamp, published, Puts}
use Rattle.smr_hold.proofs.FreeLemmas.{changed, changes}

-- ---- a value is put in a closed slot

module _ (v a b c : View Part) (slot value : ℕ) (few : slot < length (cell_in v).slots) (few_a : slot < length (cell_in a).slots)
    (wrote : cell_in a ≡ with_slot slot (valued value) (cell_in v)) (opens : cell_in b ≡ with_slot slot opened (cell_in a)) (switch : cell_in c ≡ switched slot (cell_in b))
    (holder_a : a.holder ≡ v.holder) (holder_b : b.holder ≡ a.holder) (holder_c : c.holder ≡ b.holder) (idle : current_in v ≢ Some slot) where
  same_holder : c.holder ≡ v.holder
  same_holder = holder_c ∙ holder_b ∙ holder_a

  as_opened : (n : ℕ) → slot_in c n ≡ slot_in b n
  as_opened n = ap (λ (d : CellView). slot_at d.slots n) switch

  its_slot : slot_in c slot ≡ opened (valued value (slot_in v slot))
  its_slot = as_opened slot ∙ changed a b slot opened opens few_a ∙ ap opened (changed v a slot (valued value) wrote few)

  le_same : (m n : ℕ) → m ≡ n → m ≤ n
  le_same m n e = omega arith

  wrote_touches : (n : ℕ) → n ≢ slot → slot_in c n ≡ slot_in v n
  wrote_touches n other =
      as_opened n
      ∙ (changes a b slot opened opens few_a refl (le_same _ _ (ap (λ (h : Holder). h.seen) (sym holder_b))) (le_same _ _ (ap (λ (h : Holder). h.floor) (sym holder_b)))).others n other
      ∙ ap (λ (d : CellView). slot_at d.slots n) wrote ∙ far n other
    where
      far : (n : ℕ) → n ≢ slot → slot_at (with_slot slot (valued value) (cell_in v)).slots n ≡ slot_in v n
      far n other = get_or-set_other (cell_in v).slots slot n (valued value (slot_in v slot)) fresh_slot other

  records_before : (cell_in b).records ≡ (cell_in v).records
  records_before = ap (λ (d : CellView). d.records) opens ∙ ap (λ (d : CellView). d.records) wrote

  number_before : (cell_in b).number ≡ (cell_in v).number
  number_before = ap (λ (d : CellView). d.number) opens ∙ ap (λ (d : CellView). d.number) wrote

  value_before : (slot_in b slot).value ≡ value
  value_before = ap (λ (x : SlotView). x.value) (changed a b slot opened opens few_a) ∙ ap (λ (x : SlotView). x.value) (changed v a slot (valued value) wrote few)

  records_after : (cell_in c).records ≡ published slot value (cell_in v) ∷ (cell_in v).records
  records_after = ap (λ (d : CellView). d.records) switch ∙ (λ k. record { cell = number_before k; version = last_version (records_before k) + 1; slot = slot; value = value_before k } ∷ records_before k)

  number_after : (cell_in c).number ≡ (cell_in v).number
  number_after = ap (λ (d : CellView). d.number) switch ∙ number_before

  seen_after : v.holder.seen ≤ c.holder.seen
  seen_after = le_same v.holder.seen c.holder.seen (ap (λ (h : Holder). h.seen) (sym same_holder))

  floor_after : v.holder.floor ≤ c.holder.floor
  floor_after = le_same v.holder.floor c.holder.floor (ap (λ (h : Holder). h.floor) (sym same_holder))

  -- the former current slot isn't the new one
  pub not_former : (f : ℕ) → Some f ≡ current_in v → Some slot ≢ Some f
  not_former f is e = idle (sym is ∙ sym e)

  -- the former current slot isn't closed
  pub former_open : ((f : ℕ) → current_in b ≡ Some f → (slot_in b f).state ≡ Open) → (f : ℕ) → Some f ≡ current_in v → (slot_in c f).state ≡ Closed → ⊥
  former_open told f is e =
      let is_open = told f (ap current_slot records_before ∙ sym is) in
      let g : Closed ≡ Open = sym e ∙ ap (λ (x : SlotView). x.state) (as_opened f) ∙ is_open in
      cc

  pub puts_after : (f : ℕ) (w : View Part) → Some f ≡ current_in v → f < length (cell_in c).slots → StampsSlot f c w → Puts slot value v w
  puts_after f w is few_f s =
      let apart : f ≢ slot = λ e. not_former f is (ap Some (sym e)) in
      let seen_is = ap (λ (h : Holder). h.seen) s.holder in
      let floor_is = ap (λ (h : Holder). h.floor) s.holder in
      let up = subst (λ (n : ℕ). c.holder.seen ≤ n) (sym seen_is) (le-max_left c.holder.seen s.write) in
      let t = changes c w f (stamped (s.write + 2)) s.cell few_f refl up (subst (λ (n : ℕ). c.holder.floor ≤ n) (sym floor_is) (le-max_left c.holder.floor _)) in
      let now = changed c w f (stamped (s.write + 2)) s.cell few_f in
      record {
        records = t.records ∙ records_after;
        number = t.number ∙ number_after;
        opens = ap (λ (x : SlotView). x.state) (t.others slot (λ e. apart (sym e)) ∙ its_slot);
        value_in = ap (λ (x : SlotView). x.value) (t.others slot (λ e. apart (sym e)) ∙ its_slot);
        former = λ g e.
            let same : f ≡ g = same_some f g (is ∙ e) in
            subst (λ (m : ℕ). (stamp : ℕ) × ((slot_in w m).state ≡ Stamped stamp) × GivesStamp v w stamp × ((slot_in w m).value ≡ (slot_in v m).value)) same (
              s.write + 2,
              ap (λ (x : SlotView). x.state) now,
              record {
                write = s.write;
                two_above = refl;
                not_lower = le_trans seen_after s.found.not_lower;
                seen = subst (λ (n : ℕ). s.write ≤ n) (sym seen_is) (le-max_right c.holder.seen s.write);
              },
              t.value ∙ ap (λ (x : SlotView). x.value) (wrote_touches f apart),
            );
        others = λ n other far. t.others n (λ e. far (sym is ∙ ap Some (sym e))) ∙ wrote_touches n other;
        seen = le_trans seen_after t.seen;
        floor = le_trans floor_after t.floor;
      }
    where
      same_some : (m n : ℕ) → Some m ≡ Some n → m ≡ n
      same_some m n e = cc
