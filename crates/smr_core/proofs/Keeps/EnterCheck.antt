-- The entry, the third step of an enter, keeps the law. The mark is the write sequence itself, so it is at least every least mark of a poll that has scanned the seat, and at least the read sequence.
use Rattle.std.proofs.Common.{◌≡◌, ℕ, ◌-◌, ◌<◌, ◌≤◌, ◌∙◌, List, refl, arith, le_trans, Bool, true, false, cond, leb, IsSome}
use borrow.Author.Tests.{leb-true, leb-false}
use mathlib.Core.Option.{some}
use lib.ListN.{get_elem?}
use Rattle.smr_core.specs.declared.clock_core.ClockConfig.{ClockConfig}
use Rattle.smr_core.specs.declared.holder.Holder.{Holder}
use Rattle.smr_core.specs.declared.holder.Phase.TheVariants as phase
use Rattle.smr_core.specs.declared.holder.Task.TheVariants as task
use Rattle.smr_core.specs.ClockState.{write_hand, read_hand, write_place}
use Rattle.smr_core.specs.ClockStep as step
use Rattle.smr_core.specs.ClockLaw.{PhaseFits, SeatFits, HolderFits, ScanCovers, ClockLaw, presence_bit}
use Rattle.smr_core.specs.ClockMoves.{EnterCheckKeeps}
use Rattle.smr_core.proofs.KindLemmas.{in_phase, in_task, seat_in_phase, presence_in_phase, task_kept, Loads, keeps_load}
use Rattle.smr_core.proofs.Keeps.Looks.{write_known}

module _ (a : ClockConfig) (ws : List ℕ) (hs : List Holder) (id : ℕ) (h : Holder) where
  -- the holder after the check, where the test gave b
  checked : Bool → Holder
  checked b = record (step.write_loaded a h (write_hand ws)) { phase = cond b phase.Late phase.Inside; mark = write_hand ws }

  phase_fits : ClockLaw a ws hs → HolderFits a ws h → h.phase ≡ phase.Stored → (b : Bool) → leb a.window (write_hand ws - h.loaded) ≡ b
      → PhaseFits a ws (checked b) (cond b phase.Late phase.Inside)
  unfolding checked
  phase_fits law f at_stored true late =
      let g = in_phase a ws h phase.Stored f at_stored in
      let l : a.window ≤ write_hand ws - h.loaded = leb-true a.window (write_hand ws - h.loaded) late in
      (g.0, g.1, g.2, omega arith, l)
  phase_fits law f at_stored false early =
      let g = in_phase a ws h phase.Stored f at_stored in
      let l : write_hand ws - h.loaded < a.window = leb-false a.window (write_hand ws - h.loaded) early in
      let r : read_hand ws ≤ write_hand ws = law.hands.in_order in
      let s : h.seen ≤ write_hand ws = f.seen in
      (g.0, g.1, g.2, omega arith, l, r)

  seat_fits : IsSome h.seat → (b : Bool) → SeatFits h.seat (cond b phase.Late phase.Inside)
  seat_fits s true = s
  seat_fits s false = s

  bit_after : (b : Bool) → 1 ≡ presence_bit (cond b phase.Late phase.Inside)
  bit_after true = refl
  bit_after false = refl

  after_check : ClockLaw a ws hs → get_elem? hs id ≡ some h → h.phase ≡ phase.Stored → Loads a ws hs id h (step.enter_checked a h (write_hand ws))
  unfolding checked
  after_check law at at_stored =
      let f : HolderFits a ws h = law.holders id h at in
      let covers : (s : ℕ) (p : Holder) → HolderFits a ws p → p.task ≡ task.Scanning → ScanCovers p s (write_hand ws) =
      λ s p k scanning.
      let t = in_task a ws p task.Scanning k scanning in
      let m : p.least ≤ p.write = t.4 in let w : p.write ≤ write_hand ws = t.6 in (λ _ _. le_trans m w, λ _. w) in
      record {
        seat = refl;
        advances = refl;
        fits = record {
          seen = (write_known a ws hs h law f).0;
          floor = (write_known a ws hs h law f).1;
          seat = seat_fits (seat_in_phase a ws h phase.Stored f at_stored) (step.is_overtaken a h.loaded (write_hand ws));
          phase = phase_fits law f at_stored (step.is_overtaken a h.loaded (write_hand ws)) refl;
          presence = λ s own. presence_in_phase a ws h phase.Stored f at_stored s own ∙ bit_after (step.is_overtaken a h.loaded (write_hand ws));
          task = task_kept a ws h (step.enter_checked a h (write_hand ws)) h.task refl refl refl refl refl refl f.task;
        };
        scans = record {
          scan = λ t j s q n g i seat. law.scans id j s h q at g t i seat;
          section = λ i j s p n g scanning seat. covers s p (law.holders j p g) scanning;
          own = λ scanning i s seat. covers s h f scanning;
        };
      }

pub enter_check-keeps : EnterCheckKeeps
enter_check-keeps a id h at_stored = keeps_load a id h write_place (step.enter_checked a h) (λ ws hs law at. after_check a ws hs id h law at at_stored)
