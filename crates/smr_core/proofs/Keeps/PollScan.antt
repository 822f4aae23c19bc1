-- The load of a seat's word by a poll keeps the law: the deep point of the clock. The reading comes in as a premise, so that it is plain what of it is used.
use Rattle.std.proofs.Common.{◌≡◌, ℕ, ◌+◌, ◌-◌, ◌^◌, ◌<◌, ◌≤◌, ◌≢◌, List, sym, refl, ap, ◌∙◌, subst, ⊎_elim, arith, le_trans, max, cond, eqb, Option, Some, None}
use Rattle.std.proofs.lemmas.Bool.{cases_lt, cases_eq}
use borrow.Author.Tests.{eqb-true, eqb-false}
use mathlib.Core.Option.{some}
use lib.ListN.{get_elem?}
use Rattle.smr_seq.specs.Reading.{low, reading}
use Rattle.smr_core.specs.declared.clock_core.ClockConfig.{ClockConfig}
use Rattle.smr_core.specs.declared.holder.Holder.{Holder}
use Rattle.smr_core.specs.declared.holder.Phase.TheVariants as phase
use Rattle.smr_core.specs.declared.holder.Task.{Task}
use Rattle.smr_core.specs.declared.holder.Task.TheVariants as task
use Rattle.smr_core.specs.ClockState.{IsOdd, IsAbsent, write_hand, read_hand, seat_word, seat_place, word_of}
use Rattle.smr_core.specs.ClockStep as step
use Rattle.smr_core.specs.ClockLaw.{TaskFits, HolderFits, ScanCovers, ClockLaw}
use Rattle.smr_core.specs.ClockMoves.{PollScanKeeps}
use Rattle.smr_core.proofs.PresenceLemmas.{next-within, next-present, next-skips}
use Rattle.smr_core.proofs.KindLemmas.{by_test, in_phase, in_task, phase_kept, Loads, keeps_load}
use Rattle.smr_seq.proofs.ReadingLemmas.{reading-low, IsReading-reading}

-- ---- the least mark after one word

least_with-between : (f m : ℕ) (o : Option ℕ) → f ≤ m → (f ≤ step.least_with f m o) × (step.least_with f m o ≤ m)
least_with-between f m None le = (le, omega arith)
least_with-between f m (Some y) le = (omega arith, omega arith)

-- the least mark is at least the poll's read sequence, and no greater than it was
pub least_after-between : (f l m c : ℕ) → f ≤ m → (f ≤ step.least_after f l m c) × (step.least_after f l m c ≤ m)
least_after-between f l m c le =
    by_test (eqb c 0) (λ b. (f ≤ cond b m (step.least_with f m (reading c l))) × (cond b m (step.least_with f m (reading c l)) ≤ m))
    (λ _. (le, omega arith)) (λ _. least_with-between f m (reading c l) le)

low-odd : (y c : ℕ) → low y ≡ c → IsOdd c → IsOdd y
low-odd y c e p = omega arith

least_with-odd : (f m c l : ℕ) (o : Option ℕ) → IsOdd f → IsOdd m → IsOdd c → reading c l ≡ o → IsOdd (step.least_with f m o)
least_with-odd f m c l None p q r e = q
least_with-odd f m c l (Some y) p q r e = let g : IsOdd y = low-odd y c (IsReading-reading c l y e).low_half r in omega arith

-- the least mark stays odd, since a seat's word is 0 or odd
pub least_after-odd : (f l m c : ℕ) → IsOdd f → IsOdd m → (1 ≤ c → IsOdd c) → IsOdd (step.least_after f l m c)
least_after-odd f l m c p q r =
    by_test (eqb c 0) (λ b. IsOdd (cond b m (step.least_with f m (reading c l))))
    (λ _. q)
    (λ e. let n : c ≡ 0 → ⊥ = eqb-false c 0 e in least_with-odd f m c l (reading c l) p q (r (omega arith)) refl)

low-at_least : (e : ℕ) → IsOdd e → 1 ≤ low e
low-at_least e p = omega arith

-- The word of a section that loaded e, where e is at or below the poll's write sequence and near it: it is read exactly, and the least mark is then at most the greater of e and the poll's read sequence.
least_after-section : (f l m e : ℕ) → IsOdd e → reading (low e) l ≡ Some e → step.least_after f l m (low e) ≤ max e f
least_after-section f l m e p read =
    by_test (eqb (low e) 0) (λ b. cond b m (step.least_with f m (reading (low e) l)) ≤ max e f)
    (λ g. let z : low e ≡ 0 = eqb-true (low e) 0 g in let o : 1 ≤ low e = low-at_least e p in absurd (omega arith))
    (λ _. subst (λ (o : Option ℕ). step.least_with f m o ≤ max e f) (sym read) (omega arith))

-- Whatever is read: the least mark after the word of a section that loaded e and was entered at w is at most w.
-- The poll's read sequence is at most w, and its write sequence is less than 2^31 above e where it is not below e.
pub least-le-mark : (f l m e w : ℕ) → IsOdd e → e ≤ w → f ≤ w → f ≤ m → m ≤ l → l < e + 2 ^ 31 → step.least_after f l m (low e) ≤ w
least-le-mark f l m e w p ew fw fm ml near =
    ⊎_elim
    (λ past. let b : step.least_after f l m (low e) ≤ m = (least_after-between f l m (low e) fm).1 in le_trans b (omega arith))
    (λ within. let b : step.least_after f l m (low e) ≤ max e f = least_after-section f l m e p (reading-low e l within (omega arith)) in le_trans b (omega arith))
    (cases_lt l e)

-- ---- the step

module _ (a : ClockConfig) (ws : List ℕ) (hs : List Holder) (id : ℕ) (h : Holder) where
  -- a section of the seat that is scanned is at or above the new least mark
  section_scanned : ClockLaw a ws hs → HolderFits a ws h → h.task ≡ task.Scanning → (j : ℕ) (q : Holder) → get_elem? hs j ≡ some q
      → q.phase ≡ phase.Inside → q.seat ≡ Some h.scanned → step.least_after h.read h.write h.least (seat_word ws h.scanned) ≤ q.mark
  section_scanned law f scanning j q at inside seat =
      let g = in_phase a ws q phase.Inside (law.holders j q at) inside in
      let t = in_task a ws h task.Scanning f scanning in
      let word : seat_word ws h.scanned ≡ low q.loaded = ap (word_of ws) (sym seat) ∙ g.0 in
      let odd : IsOdd q.loaded = g.1 in
      let entered : q.loaded ≤ q.mark = g.2 in
      let fresh : q.mark - q.loaded < a.window = g.4 in
      let pinned : read_hand ws ≤ q.mark = g.5 in
      let read : h.read ≤ read_hand ws = t.1 in
      let above : h.read ≤ h.least = t.3 in
      let below : h.least ≤ h.write = t.4 in
      let write : h.write ≤ write_hand ws = t.6 in
      let window : write_hand ws - read_hand ws ≤ a.window = law.hands.within_window in
      let small : a.window ≤ 2 ^ 30 = law.numbers.greatest_window in
      let near : h.write < q.loaded + 2 ^ 31 = omega arith in
      subst (λ (c : ℕ). step.least_after h.read h.write h.least c ≤ q.mark) (sym word)
      (least-le-mark h.read h.write h.least q.loaded q.mark odd entered (omega arith) above below near)

  -- so is a section of any seat of the set that is scanned by now: none lies between the seat and the next one
  sections_scanned : ClockLaw a ws hs → get_elem? hs id ≡ some h → h.task ≡ task.Scanning → h.scanned < a.seats → (j s : ℕ) (q : Holder) → get_elem? hs j ≡ some q
      → q.phase ≡ phase.Inside → q.seat ≡ Some s → ScanCovers (step.poll_scanned a h (seat_word ws h.scanned)) s q.mark
  sections_scanned law at scanning seats j s q g inside seat =
      let t = in_task a ws h task.Scanning (law.holders id h at) scanning in
      let covers = law.scans id j s h q at g scanning inside seat in (
        λ present below.
            ⊎_elim
            (λ b. le_trans (least_after-between h.read h.write h.least (seat_word ws h.scanned) t.3).1 (covers.0 present b))
            (λ above.
            ⊎_elim
            (λ (here : s ≡ h.scanned). section_scanned law (law.holders id h at) scanning j q g inside (seat ∙ ap (λ (n : ℕ). Some n) here))
            (λ (past : s ≢ h.scanned).
            let absent : IsAbsent h.present s = next-skips a h.present (h.scanned + 1) s (omega arith) below in
            absurd (omega arith))
            (cases_eq s h.scanned))
            (cases_lt s h.scanned),
        covers.1,
      )

  after_scan : ClockLaw a ws hs → get_elem? hs id ≡ some h → h.task ≡ task.Scanning → h.scanned < a.seats → Loads a ws hs id h (step.poll_scanned a h (seat_word ws h.scanned))
  after_scan law at scanning seats =
      let f : HolderFits a ws h = law.holders id h at in
      let t = in_task a ws h task.Scanning f scanning in
      let c : ℕ = seat_word ws h.scanned in
      let m : ℕ = step.least_after h.read h.write h.least (seat_word ws h.scanned) in
      let between = least_after-between h.read h.write h.least (seat_word ws h.scanned) t.3 in
      let odd = least_after-odd h.read h.write h.least (seat_word ws h.scanned) t.0 t.2 (law.seat_words h.scanned seats).odd in
      record {
        seat = refl;
        advances = refl;
        fits = record {
          seen = f.seen;
          floor = f.floor;
          seat = f.seat;
          phase = phase_kept a ws h (step.poll_scanned a h (seat_word ws h.scanned)) h.phase refl refl refl (omega arith) refl (λ _ e. e) f.phase;
          presence = f.presence;
          task = subst (λ (x : Task). TaskFits a ws (step.poll_scanned a h (seat_word ws h.scanned)) x) (sym scanning)
              (t.0, t.1, odd, between.0, le_trans between.1 t.4, t.5, t.6, (next-within a h.present (h.scanned + 1) (omega arith), next-present a h.present (h.scanned + 1)));
        };
        scans = record {
          scan = λ _ j s q n g inside seat. sections_scanned law at scanning seats j s q g inside seat;
          section = λ inside i s p n g sc seat. law.scans i id s p h g at sc inside seat;
          own = λ _ inside s seat. sections_scanned law at scanning seats id s h at inside seat;
        };
      }

pub poll_scan-keeps : PollScanKeeps
poll_scan-keeps a id h scanning seats = keeps_load a id h (seat_place h.scanned) (step.poll_scanned a h) (λ ws hs law at. after_scan a ws hs id h law at scanning seats)
