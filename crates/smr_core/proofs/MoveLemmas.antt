-- One lemma for every kind of step that leaves the holders as many as they were: a word changes, and the holder that takes the step.
use Rattle.std.proofs.Common.{◌≡◌, ℕ, ◌+◌, ◌*◌, ◌^◌, ◌<◌, ◌≤◌, ◌≢◌, List, set, sym, refl, ap, ◌∙◌, subst, ⊎_elim, arith, le_trans, Option, Some, None}
use Rattle.std.specs.Int.{bit_at}
use mathlib.Core.Option.{some}
use lib.ListN.{get_elem?}
use Rattle.smr_core.specs.declared.clock_core.ClockConfig.{ClockConfig}
use Rattle.smr_core.specs.declared.holder.Holder.{Holder}
use Rattle.smr_core.specs.declared.holder.Phase.{Phase}
use Rattle.smr_core.specs.declared.holder.Phase.TheVariants as phase
use Rattle.smr_core.specs.declared.holder.Task.{Task}
use Rattle.smr_core.specs.declared.holder.Task.TheVariants as task
use Rattle.smr_core.specs.ClockState.{write_hand, read_hand, seat_word, word_of, seats_of, IsSeatWord, presence_word}
use Rattle.smr_core.specs.ClockLaw.{HandsFit, PhaseFits, TaskFits, HolderFits, OneHolderEach, HasNoHolder, ScanCovers, ScansFit, all_advances, ClockLaw, Later}
use Rattle.smr_core.proofs.PlaceLemmas.{at_set, set_again, at_map, map_set, sum_by_written}

-- what has to be shown of a step of the holder id, from h to h' and from the words ws to ws'
pub record Moves (a : ClockConfig) (ws : List ℕ) (hs : List Holder) (ws' : List ℕ) (id : ℕ) (h h' : Holder) : Type 0 where
  pub seat : h'.seat ≡ h.seat
  pub hands : HandsFit a ws'
  pub write_not_lower : write_hand ws ≤ write_hand ws'
  pub read_not_lower : read_hand ws ≤ read_hand ws'
  pub others : (s : ℕ) → s < a.seats → (h.seat ≡ Some s → ⊥) → seat_word ws' s ≡ seat_word ws s
  pub seat_words : (s : ℕ) → s < a.seats → IsSeatWord (seat_word ws' s)
  pub other_bits : (s : ℕ) → s < a.seats → (h.seat ≡ Some s → ⊥) → bit_at (presence_word a ws') s ≡ bit_at (presence_word a ws) s
  pub presence : presence_word a ws' < 2 ^ a.seats
  pub balance : write_hand ws' + 2 * h.advances ≡ write_hand ws + 2 * h'.advances
  pub fits : HolderFits a ws' h'
  pub pinned : (j : ℕ) (q : Holder) → j ≢ id → get_elem? hs j ≡ some q → q.phase ≡ phase.Inside → read_hand ws' ≤ q.mark
  -- the poll of h' and the sections of others
  pub scan : h'.task ≡ task.Scanning → (j s : ℕ) (q : Holder) → j ≢ id → get_elem? hs j ≡ some q → q.phase ≡ phase.Inside → q.seat ≡ Some s → ScanCovers h' s q.mark
  -- the section of h' and the polls of others
  pub section : h'.phase ≡ phase.Inside → (i s : ℕ) (p : Holder) → i ≢ id → get_elem? hs i ≡ some p → p.task ≡ task.Scanning → h'.seat ≡ Some s → ScanCovers p s h'.mark
  pub own : h'.task ≡ task.Scanning → h'.phase ≡ phase.Inside → (s : ℕ) → h'.seat ≡ Some s → ScanCovers h' s h'.mark

-- ---- a holder that stands still fits after the step

phase_still : (a : ClockConfig) (ws ws' : List ℕ) (q : Holder) (p : Phase) → PhaseFits a ws q p → word_of ws' q.seat ≡ word_of ws q.seat
    → write_hand ws ≤ write_hand ws' → (p ≡ phase.Inside → read_hand ws' ≤ q.mark) → PhaseFits a ws' q p
phase_still a ws ws' q phase.Outside f e l r = e ∙ f
phase_still a ws ws' q phase.Loaded f e l r = (e ∙ f.0, f.1, omega arith)
phase_still a ws ws' q phase.Stored f e l r = (e ∙ f.0, f.1, omega arith)
phase_still a ws ws' q phase.Inside f e l r = (e ∙ f.0, f.1, f.2, f.3, f.4, r refl)
phase_still a ws ws' q phase.Late f e l r = (e ∙ f.0, f.1, f.2, omega arith, f.4)
phase_still a ws ws' q phase.Vacant f e l r = (e ∙ f.0, f.1)
phase_still a ws ws' q phase.Note f e l r = f
phase_still a ws ws' q phase.Absorbed f e l r = f

task_still : (a : ClockConfig) (ws ws' : List ℕ) (q : Holder) (t : Task) → TaskFits a ws q t → write_hand ws ≤ write_hand ws' → read_hand ws ≤ read_hand ws' → TaskFits a ws' q t
task_still a ws ws' q task.Idle f l r = tt
task_still a ws ws' q task.AdvRead f l r = (f.0, omega arith)
task_still a ws ws' q task.AdvLoaded f l r = (f.0, omega arith, omega arith, f.3, f.4, f.5)
task_still a ws ws' q task.PollRead f l r = (f.0, omega arith)
task_still a ws ws' q task.PollLoaded f l r = (f.0, omega arith, f.2, f.3, omega arith)
task_still a ws ws' q task.Scanning f l r = (f.0, omega arith, f.2, f.3, f.4, f.5, omega arith, f.7)

pub fits_still : (a : ClockConfig) (ws ws' : List ℕ) (q : Holder) → HolderFits a ws q → word_of ws' q.seat ≡ word_of ws q.seat
    → ((s : ℕ) → q.seat ≡ Some s → bit_at (presence_word a ws') s ≡ bit_at (presence_word a ws) s)
    → write_hand ws ≤ write_hand ws' → read_hand ws ≤ read_hand ws' → (q.phase ≡ phase.Inside → read_hand ws' ≤ q.mark) → HolderFits a ws' q
fits_still a ws ws' q f e bits l r i =
    record {
      seen = le_trans f.seen l;
      floor = le_trans f.floor r;
      seat = f.seat;
      phase = phase_still a ws ws' q q.phase f.phase e l i;
      presence = λ s own. bits s own ∙ f.presence s own;
      task = task_still a ws ws' q q.task f.task l r;
    }

-- ---- the lemma

module _ (a : ClockConfig) (ws : List ℕ) (hs : List Holder) (ws' : List ℕ) (id : ℕ) (h h' : Holder) where
  -- the seats stay with their workers
  same_seats : get_elem? hs id ≡ some h → h'.seat ≡ h.seat → seats_of (set hs id h') ≡ seats_of hs
  same_seats at e =
      map_set (λ (x : Holder). x.seat) hs id h' ∙ ap (λ o. set (seats_of hs) id o) e
      ∙ set_again (seats_of hs) id h.seat (at_map (λ (x : Holder). x.seat) hs id h at)

  -- another holder has another seat, whose word and whose bit the step leaves
  other_seat : ClockLaw a ws hs → get_elem? hs id ≡ some h → (j s : ℕ) (q : Holder) → j ≢ id → get_elem? hs j ≡ some q → q.seat ≡ Some s
      → (s < a.seats) × (h.seat ≡ Some s → ⊥)
  other_seat law at j s q n f e =
      let there : get_elem? (seats_of hs) j ≡ some (Some s) = at_map (λ (x : Holder). x.seat) hs j q f ∙ ap (λ (o : Option ℕ). some o) e in (
        law.seats.known j s there,
        λ g. n (law.seats.one j id s there (at_map (λ (x : Holder). x.seat) hs id h at ∙ ap (λ (o : Option ℕ). some o) g)),
      )

  word_still : ClockLaw a ws hs → get_elem? hs id ≡ some h → Moves a ws hs ws' id h h'
      → (j : ℕ) (q : Holder) (o : Option ℕ) → j ≢ id → get_elem? hs j ≡ some q → q.seat ≡ o → word_of ws' o ≡ word_of ws o
  word_still law at m j q None n f e = refl
  word_still law at m j q (Some s) n f e = let t = other_seat law at j s q n f e in m.others s t.0 t.1

  each_fits : ClockLaw a ws hs → get_elem? hs id ≡ some h → Moves a ws hs ws' id h h'
      → (i : ℕ) (q : Holder) → get_elem? (set hs id h') i ≡ some q → HolderFits a ws' q
  each_fits law at m i q f =
      ⊎_elim
      (λ t. subst (λ (x : Holder). HolderFits a ws' x) t.1 m.fits)
      (λ t. fits_still a ws ws' q (law.holders i q t.1) (word_still law at m i q q.seat t.0 t.1 refl)
      (λ s e. let u = other_seat law at i s q t.0 t.1 e in m.other_bits s u.0 u.1) m.write_not_lower m.read_not_lower (m.pinned i q t.0 t.1))
      (at_set hs id i h' q f)

  scans_fit : ClockLaw a ws hs → Moves a ws hs ws' id h h' → ScansFit (set hs id h')
  scans_fit law m i j s p q fi fj scanning inside seat =
      ⊎_elim
      (λ t. ⊎_elim
      (λ u. subst (λ (x : Holder). ScanCovers p s x.mark) u.1 (subst (λ (x : Holder). ScanCovers x s h'.mark) t.1
      (m.own (ap (λ (x : Holder). x.task) t.1 ∙ scanning) (ap (λ (x : Holder). x.phase) u.1 ∙ inside) s (ap (λ (x : Holder). x.seat) u.1 ∙ seat))))
      (λ u. subst (λ (x : Holder). ScanCovers x s q.mark) t.1
      (m.scan (ap (λ (x : Holder). x.task) t.1 ∙ scanning) j s q u.0 u.1 inside seat))
      (at_set hs id j h' q fj))
      (λ t. ⊎_elim
      (λ u. subst (λ (x : Holder). ScanCovers p s x.mark) u.1
      (m.section (ap (λ (x : Holder). x.phase) u.1 ∙ inside) i s p t.0 t.1 scanning (ap (λ (x : Holder). x.seat) u.1 ∙ seat)))
      (λ u. law.scans i j s p q t.1 u.1 scanning inside seat)
      (at_set hs id j h' q fj))
      (at_set hs id i h' p fi)

  balanced : ClockLaw a ws hs → get_elem? hs id ≡ some h → Moves a ws hs ws' id h h' → write_hand ws' ≡ a.start + 2 * all_advances (set hs id h')
  balanced law at m =
      let written = sum_by_written (λ (x : Holder). x.advances) hs id h h' at in
      let before = law.balance in
      let after = m.balance in
      omega arith

  pub moved : ClockLaw a ws hs → get_elem? hs id ≡ some h → Moves a ws hs ws' id h h' → Later a ws ws' (set hs id h')
  moved law at m =
      let seats : seats_of (set hs id h') ≡ seats_of hs = same_seats at m.seat in
      record {
        law = record {
          numbers = law.numbers;
          hands = m.hands;
          holders = each_fits law at m;
          seats = subst (λ (l : List (Option ℕ)). OneHolderEach a l) (sym seats) law.seats;
          unmade = λ s known none.
              let none' : HasNoHolder (seats_of hs) s = subst (λ (l : List (Option ℕ)). HasNoHolder l s) seats none in
              let other : h.seat ≡ Some s → ⊥ = λ g. none' id (at_map (λ (x : Holder). x.seat) hs id h at ∙ ap (λ (o : Option ℕ). some o) g) in
              let u = law.unmade s known none' in (m.others s known other ∙ u.0, m.other_bits s known other ∙ u.1);
          presence = m.presence;
          seat_words = m.seat_words;
          scans = scans_fit law m;
          balance = balanced law at m;
        };
        write_not_lower = m.write_not_lower;
        read_not_lower = m.read_not_lower;
      }
