-- What a look's two loads come to, and a read of a hold.
use Rattle.std.proofs.Common.{◌≡◌, ◌==◌, ℕ, ◌<◌, ◌≤◌, List, [], ◌∷◌, cond, Bool, true, false, refl, sym, ap, ◌∙◌, subst, ⊎_elim, inl, inr, arith, Some, None}
use Rattle.smr_core.specs.declared.holder.Phase.TheVariants as phase
use Rattle.smr_clock.specs.declared.clock.Setup.{Setup}
use Rattle.smr_clock.specs.declared.view.View.{View}
use Rattle.smr_objects.specs.declared.cell.Record.{Record}
use Rattle.smr_objects.specs.declared.cell.Looked.{Looked}
use Rattle.smr_objects.specs.declared.objects.Part.{Part}
use Rattle.smr_objects.specs.Cells.{In}
use Rattle.smr_objects.specs.Steps.{held_of, slot_of}
use Rattle.smr_objects.specs.Reading.{SeesNone, SeesRecord, HoldsSlot}
use Rattle.smr_objects.proofs.Seats.{decide}
use Rattle.smr_hold.specs.Looks.{FindsNone, Looks}

pub finds_none : (v : View Part) (cell slot : ℕ) (w : View Part) → SeesNone v cell slot w → FindsNone v cell w
finds_none v cell slot w sees = record { unknown = sees.unknown; after = sees.after }

pub slot_below : (v : View Part) (cell version slot : ℕ) (w : View Part) (a : Setup) → v.setup ≡ a → SeesRecord v cell version slot w → slot < a.plan.1
slot_below v cell version slot w a own sees =
    let below = sees.below in
    let same = sees.its_slot in
    let here : slot < v.setup.plan.1 = omega arith in
    subst (λ (s : Setup). slot < s.plan.1) own here

pub looks : (v : View Part) (cell version slot value : ℕ) (w x : View Part) → v.holder.phase ≡ phase.Inside → 1 ≤ version → SeesRecord v cell version slot w → x ≡ w
    → ((l : Looked) → In l w.host.looks → w.holder.phase ≡ phase.Inside → l.mark ≡ w.holder.mark → l.loaded.cell ≡ cell → l.loaded.slot ≡ slot → value ≡ l.loaded.value)
    → Looks v cell (record { value = value; version = version; slot = slot }) x
looks v cell version slot value w x inside some sees same reads =
    let last = sees.last in
    let low = sees.low in
    let below = sees.below in
    let version_is = sees.its_version in
    let slot_is = sees.its_slot in
    record {
      last = sees.last;
      of_cell = sees.of_cell;
      newest = sees.newest;
      value = reads (record { loaded = sees.last; mark = v.holder.mark })
          (subst (λ (y : View Part). In (record { loaded = sees.last; mark = v.holder.mark }) y.host.looks) (sym sees.after) (inl refl))
          (ap (λ (y : View Part). y.holder.phase) sees.after ∙ inside)
          (sym (ap (λ (y : View Part). y.holder.mark) sees.after)) sees.of_cell (sym sees.its_slot);
      version = sees.its_version;
      slot = sees.its_slot;
      some = some;
      low = omega arith;
      below = omega arith;
      after = same ∙ sees.after;
    }

one_same : (m n : ℕ) → m ≡ n → (m == n) ≡ true
one_same m n e = grind arith

-- the record that is held, of the cell and slot
held_in : (cell : ℕ) (holds : List Record) (r : Record) → held_of cell holds ≡ Some r → In r holds × (r.cell ≡ cell)
held_in cell [] r e = absurd (let f : None ≡ Some r = e in cc)
held_in cell (x ∷ xs) r e =
    ⊎_elim
    (λ s.
    let is : x ≡ r = same_some x r (sym (ap (λ (b : Bool). cond b (Some x) (held_of cell xs)) (one_same x.cell cell s)) ∙ e) in
    (inl is, ap (λ (y : Record). y.cell) (sym is) ∙ s))
    (λ n.
    let k = held_in cell xs r (sym (ap (λ (b : Bool). cond b (Some x) (held_of cell xs)) (one_other x.cell cell n)) ∙ e) in
    (inr k.0, k.1))
    (decide cell x.cell)
  where
    same_some : (x y : Record) → Some x ≡ Some y → x ≡ y
    same_some x y e = cc

    one_other : (m n : ℕ) → (m ≡ n → ⊥) → (m == n) ≡ false
    one_other m n e = grind arith

pub held_value : (v : View Part) (cell slot value : ℕ) → HoldsSlot v cell slot → ((r : Record) → In r v.host.holds → r.cell ≡ cell → r.slot ≡ slot → value ≡ r.value)
    → (r : Record) → held_of cell v.host.holds ≡ Some r → value ≡ r.value
held_value v cell slot value holds reads r e =
    let k = held_in cell v.host.holds r e in
    reads r k.0 k.1 (same_some r.slot slot (sym (ap slot_of e) ∙ holds.held))
  where
    same_some : (m n : ℕ) → Some m ≡ Some n → m ≡ n
    same_some m n e = cc
