-- What the lemmas on the kinds of step share: a holder with some of its numbers changed still fits, and a step that only loads, or only stores in its own word.
use Rattle.std.proofs.Common.{◌≡◌, ℕ, ◌+◌, ◌*◌, ◌≤◌, ◌≢◌, Bool, true, false, List, set, sym, refl, ap, ◌∙◌, subst, arith, Some, IsSome, slice_index, subst₂}
use Rattle.std.proofs.lemmas.List.{set-get_or}
use Rattle.std.specs.Int.{bit_at}
use mathlib.Core.Option.{some}
use lib.ListN.{get_elem?}
use Rattle.smr_seq.specs.Reading.{low}
use Rattle.smr_core.specs.declared.clock_core.ClockConfig.{ClockConfig}
use Rattle.smr_core.specs.declared.holder.Holder.{Holder}
use Rattle.smr_core.specs.declared.holder.Phase.{Phase}
use Rattle.smr_core.specs.declared.holder.Phase.TheVariants as phase
use Rattle.smr_core.specs.declared.holder.Task.{Task}
use Rattle.smr_core.specs.declared.holder.Task.TheVariants as task
use Rattle.smr_core.specs.ClockState.{IsOdd, write_hand, read_hand, word_of, presence_word, IsPresent}
use Rattle.smr_core.specs.ClockStep.{same}
use Rattle.smr_core.specs.ClockLaw.{PhaseFits, SeatFits, TaskFits, HolderFits, ScanCovers, ClockLaw, Later, Keeps, presence_bit}
use Rattle.smr_core.proofs.MoveLemmas.{moved}

-- what holds of either answer of a test
pub by_test : (b : Bool) (P : Bool → Type 0) → (b ≡ true → P true) → (b ≡ false → P false) → P b
by_test true P t f = t refl
by_test false P t f = f refl

-- ---- what the law says of a holder whose phase or task is known

pub in_phase : (a : ClockConfig) (ws : List ℕ) (h : Holder) (p : Phase) → HolderFits a ws h → h.phase ≡ p → PhaseFits a ws h p
in_phase a ws h p f e = subst (λ (x : Phase). PhaseFits a ws h x) e f.phase

pub in_task : (a : ClockConfig) (ws : List ℕ) (h : Holder) (t : Task) → HolderFits a ws h → h.task ≡ t → TaskFits a ws h t
in_task a ws h t f e = subst (λ (x : Task). TaskFits a ws h x) e f.task

pub seat_in_phase : (a : ClockConfig) (ws : List ℕ) (h : Holder) (p : Phase) → HolderFits a ws h → h.phase ≡ p → SeatFits h.seat p
seat_in_phase a ws h p f e = subst (λ (x : Phase). SeatFits h.seat x) e f.seat

pub presence_in_phase : (a : ClockConfig) (ws : List ℕ) (h : Holder) (p : Phase) → HolderFits a ws h → h.phase ≡ p → (s : ℕ) → h.seat ≡ Some s → bit_at (presence_word a ws) s ≡ presence_bit p
presence_in_phase a ws h p f e s own = f.presence s own ∙ ap presence_bit e

-- ---- the numbers of a phase and of a task stay

pub phase_kept : (a : ClockConfig) (ws : List ℕ) (h h' : Holder) (p : Phase) → h'.seat ≡ h.seat → h'.loaded ≡ h.loaded → h'.mark ≡ h.mark
    → h.seen ≤ h'.seen → h'.advances ≡ h.advances → (p ≡ phase.Vacant → h.task ≡ task.Idle → h'.task ≡ task.Idle) → PhaseFits a ws h p → PhaseFits a ws h' p
phase_kept a ws h h' phase.Outside s e m l c v f = ap (word_of ws) s ∙ f
phase_kept a ws h h' phase.Loaded s e m l c v f = (ap (word_of ws) s ∙ f.0, subst IsOdd (sym e) f.1, omega arith)
phase_kept a ws h h' phase.Stored s e m l c v f = (ap (word_of ws) s ∙ f.0 ∙ ap low (sym e), subst IsOdd (sym e) f.1, omega arith)
phase_kept a ws h h' phase.Inside s e m l c v f =
    (ap (word_of ws) s ∙ f.0 ∙ ap low (sym e), subst IsOdd (sym e) f.1, omega arith, omega arith, omega arith, omega arith)
phase_kept a ws h h' phase.Late s e m l c v f =
    (ap (word_of ws) s ∙ f.0 ∙ ap low (sym e), subst IsOdd (sym e) f.1, omega arith, omega arith, omega arith)
phase_kept a ws h h' phase.Vacant s e m l c v f = (ap (word_of ws) s ∙ f.0, v refl f.1)
phase_kept a ws h h' phase.Note s e m l c v f = c ∙ f
phase_kept a ws h h' phase.Absorbed s e m l c v f = c ∙ f

pub task_kept : (a : ClockConfig) (ws : List ℕ) (h h' : Holder) (t : Task) → h'.seat ≡ h.seat → h'.read ≡ h.read → h'.write ≡ h.write → h'.least ≡ h.least
    → h'.present ≡ h.present → h'.scanned ≡ h.scanned → TaskFits a ws h t → TaskFits a ws h' t
task_kept a ws h h' task.Idle s r w m p k f = tt
task_kept a ws h h' task.AdvRead s r w m p k f = (subst IsSome (sym s) f.0, omega arith)
task_kept a ws h h' task.AdvLoaded s r w m p k f = (subst IsSome (sym s) f.0, omega arith, omega arith, omega arith, omega arith, subst IsOdd (sym w) f.5)
task_kept a ws h h' task.PollRead s r w m p k f = (subst IsOdd (sym r) f.0, omega arith)
task_kept a ws h h' task.PollLoaded s r w m p k f = (subst IsOdd (sym r) f.0, omega arith, omega arith, subst IsOdd (sym w) f.3, omega arith)
task_kept a ws h h' task.Scanning s r w m p k f = (
  subst IsOdd (sym r) f.0,
  omega arith,
  subst IsOdd (sym m) f.2,
  omega arith,
  omega arith,
  subst IsOdd (sym w) f.5,
  omega arith,
  (omega arith, λ below. subst₂ IsPresent (sym p) (sym k) (f.7.1 (omega arith))),
)

-- ---- polls and sections that the step leaves alone

pub record SameScan (h h' : Holder) : Type 0 where
  pub scanning : h'.task ≡ task.Scanning → h.task ≡ task.Scanning
  pub covers : h'.task ≡ task.Scanning → (s m : ℕ) → ScanCovers h s m → ScanCovers h' s m

pub record SameSection (h h' : Holder) : Type 0 where
  pub inside : h'.phase ≡ phase.Inside → h.phase ≡ phase.Inside
  pub mark : h'.phase ≡ phase.Inside → h'.mark ≡ h.mark

module _ (a : ClockConfig) (ws : List ℕ) (hs : List Holder) (id : ℕ) (h h' : Holder) where
  -- what has to be shown of the scans, where the polls and sections of the others are as they were
  pub record Scans : Type 0 where
    pub scan : h'.task ≡ task.Scanning → (j s : ℕ) (q : Holder) → j ≢ id → get_elem? hs j ≡ some q → q.phase ≡ phase.Inside → q.seat ≡ Some s → ScanCovers h' s q.mark
    pub section : h'.phase ≡ phase.Inside → (i s : ℕ) (p : Holder) → i ≢ id → get_elem? hs i ≡ some p → p.task ≡ task.Scanning → h'.seat ≡ Some s → ScanCovers p s h'.mark
    pub own : h'.task ≡ task.Scanning → h'.phase ≡ phase.Inside → (s : ℕ) → h'.seat ≡ Some s → ScanCovers h' s h'.mark

  -- the step changes neither a poll's scan nor a section
  pub same_scans : ClockLaw a ws hs → get_elem? hs id ≡ some h → h'.seat ≡ h.seat → SameScan h h' → SameSection h h' → Scans
  same_scans law at e p q =
      record {
        scan = λ t j s x n f i seat. p.covers t s x.mark (law.scans id j s h x at f (p.scanning t) i seat);
        section = λ t i s x n f scanning seat.
            subst (λ (m : ℕ). ScanCovers x s m) (sym (q.mark t)) (law.scans i id s x h f at scanning (q.inside t) (sym e ∙ seat));
        own = λ t u s seat.
            p.covers t s h'.mark (subst (λ (m : ℕ). ScanCovers h s m) (sym (q.mark u)) (law.scans id id s h h at at (p.scanning t) (q.inside u) (sym e ∙ seat)));
      }

  -- every section's mark is at least the read sequence
  pub marks_above_read : ClockLaw a ws hs → (j : ℕ) (q : Holder) → get_elem? hs j ≡ some q → q.phase ≡ phase.Inside → read_hand ws ≤ q.mark
  marks_above_read law j q f i = (in_phase a ws q phase.Inside (law.holders j q f) i).5

  -- ---- a step that loads

  pub record Loads : Type 0 where
    pub seat : h'.seat ≡ h.seat
    pub advances : h'.advances ≡ h.advances
    pub fits : HolderFits a ws h'
    pub scans : Scans

  pub loads : ClockLaw a ws hs → get_elem? hs id ≡ some h → Loads → Later a ws ws (set hs id h')
  loads law at m =
      moved a ws hs ws id h h' law at record {
        seat = m.seat;
        hands = law.hands;
        write_not_lower = omega arith;
        read_not_lower = omega arith;
        others = λ s k n. refl;
        seat_words = law.seat_words;
        other_bits = λ s k n. refl;
        presence = law.presence;
        balance = ap (λ (n : ℕ). write_hand ws + 2 * n) (sym m.advances);
        fits = m.fits;
        pinned = λ j q n f i. marks_above_read law j q f i;
        scan = m.scans.scan;
        section = m.scans.section;
        own = m.scans.own;
      }

-- a load is a step that writes what it found
pub keeps_load : (a : ClockConfig) (id : ℕ) (h : Holder) (i : ℕ) (g : ℕ → Holder)
    → ((ws : List ℕ) (hs : List Holder) → ClockLaw a ws hs → get_elem? hs id ≡ some h → Loads a ws hs id h (g (slice_index ws i)))
    → Keeps a id h i same g
keeps_load a id h i g each ws hs law at =
    subst (λ (l : List ℕ). Later a ws l (set hs id (g (slice_index ws i)))) (sym (set-get_or ws i 0))
    (loads a ws hs id h (g (slice_index ws i)) law at (each ws hs law at))
