-- A store in one's own word keeps the law, where what is stored agrees with the phase after it.
use Rattle.std.proofs.Common.{◌≡◌, ℕ, ◌-◌, ◌^◌, ◌<◌, ◌≤◌, List, length, set, sym, refl, ap, ◌∙◌, subst, ⊎_elim, arith, Option, Some, length-set, get_or-set_same, get_or-set_other}
use Rattle.std.proofs.Common.{subst₂}
use Rattle.smr_core.specs.ClockState.{IsSeatWord}
use Rattle.std.proofs.lemmas.Bool.{cases_eq}
use Rattle.std.specs.Int.{bit_at}
use mathlib.Core.Option.{some}
use lib.ListN.{get_elem?}
use Rattle.smr_seq.specs.Reading.{low}
use Rattle.smr_core.specs.declared.clock_core.ClockConfig.{ClockConfig}
use Rattle.smr_core.specs.declared.holder.Holder.{Holder}
use Rattle.smr_core.specs.declared.holder.Phase.TheVariants as phase
use Rattle.smr_core.specs.declared.holder.Task.{Task}
use Rattle.smr_core.specs.declared.holder.Task.TheVariants as task
use Rattle.smr_core.specs.ClockState.{IsOdd, place_after_seats, presence_place, presence_word, write_hand, read_hand, seat_word, seat_place, write_place, read_place, word_of}
use Rattle.smr_core.specs.ClockStep as step
use Rattle.smr_core.specs.ClockStep.{stored}
use Rattle.smr_core.specs.ClockLaw.{HandsFit, PhaseFits, SeatFits, TaskFits, HolderFits, ClockLaw, Keeps, presence_bit}
use Rattle.smr_core.proofs.PlaceLemmas.{at_map}
use Rattle.smr_core.specs.ClockMoves.{EnterStoreKeeps, ClearKeeps}
use Rattle.smr_core.proofs.MoveLemmas.{Moves, moved}
use Rattle.smr_core.proofs.KindLemmas.{in_phase, seat_in_phase, presence_in_phase, task_kept, SameScan, SameSection, same_scans, marks_above_read}

module _ (ws : List ℕ) (s v : ℕ) where
  pub write_after_store : write_hand (set ws (seat_place s) v) ≡ write_hand ws
  write_after_store = get_or-set_other ws (seat_place s) write_place v 0 (λ e. omega arith)

  pub read_after_store : read_hand (set ws (seat_place s) v) ≡ read_hand ws
  read_after_store = get_or-set_other ws (seat_place s) read_place v 0 (λ e. omega arith)

  pub other_after_store : (t : ℕ) → (s ≡ t → ⊥) → seat_word (set ws (seat_place s) v) t ≡ seat_word ws t
  other_after_store t n = get_or-set_other ws (seat_place s) (seat_place t) v 0 (λ e. n (omega arith))

  pub own_after_store : seat_place s < length ws → seat_word (set ws (seat_place s) v) s ≡ v
  own_after_store l = get_or-set_same ws (seat_place s) v 0 l

  pub presence_after_store : (a : ClockConfig) → s < a.seats → presence_word a (set ws (seat_place s) v) ≡ presence_word a ws
  presence_after_store a known = get_or-set_other ws (seat_place s) (presence_place a) v 0 (λ e. omega arith)

  pub hands_after_store : (a : ClockConfig) → HandsFit a ws → HandsFit a (set ws (seat_place s) v)
  hands_after_store a f =
      let w : write_hand (set ws (seat_place s) v) ≡ write_hand ws = write_after_store in
      let r : read_hand (set ws (seat_place s) v) ≡ read_hand ws = read_after_store in
      record {
        places = subst (λ (n : ℕ). place_after_seats a ≤ n) (sym (length-set ws (seat_place s) v)) f.places;
        odd_write = subst IsOdd (sym w) f.odd_write;
        odd_read = subst IsOdd (sym r) f.odd_read;
        from_start = subst (λ (n : ℕ). a.start ≤ n) (sym r) f.from_start;
        in_order = subst₂ (λ (m n : ℕ). m ≤ n) (sym r) (sym w) f.in_order;
        in_range = subst (λ (n : ℕ). n < 2 ^ 63) (sym w) f.in_range;
        within_window = subst₂ (λ (m n : ℕ). n - m ≤ a.window) (sym r) (sym w) f.within_window;
      }

-- what has to be shown of the holder after the store
pub record Stores (a : ClockConfig) (ws : List ℕ) (h h' : Holder) (s v : ℕ) : Type 0 where
  pub own : h.seat ≡ Some s
  pub word : IsSeatWord v
  pub seat : h'.seat ≡ h.seat
  pub advances : h'.advances ≡ h.advances
  pub seen : h'.seen ≡ h.seen
  pub floor : h'.floor ≡ h.floor
  pub seat_fits : SeatFits h'.seat h'.phase
  pub phase_fits : (ws' : List ℕ) → word_of ws' h'.seat ≡ v → write_hand ws' ≡ write_hand ws → read_hand ws' ≡ read_hand ws → PhaseFits a ws' h' h'.phase
  pub presence_fits : (t : ℕ) → h'.seat ≡ Some t → bit_at (presence_word a ws) t ≡ presence_bit h'.phase
  pub task_fits : TaskFits a ws h' h'.task
  pub scan : SameScan h h'
  pub section : SameSection h h'

-- a task stays as it is where both sequences do
task_moves : (a : ClockConfig) (ws ws' : List ℕ) (q : Holder) (t : Task) → write_hand ws' ≡ write_hand ws → read_hand ws' ≡ read_hand ws → TaskFits a ws q t → TaskFits a ws' q t
task_moves a ws ws' q task.Idle w r f = tt
task_moves a ws ws' q task.AdvRead w r f = (f.0, omega arith)
task_moves a ws ws' q task.AdvLoaded w r f = (f.0, omega arith, omega arith, f.3, f.4, f.5)
task_moves a ws ws' q task.PollRead w r f = (f.0, omega arith)
task_moves a ws ws' q task.PollLoaded w r f = (f.0, omega arith, f.2, f.3, omega arith)
task_moves a ws ws' q task.Scanning w r f = (f.0, omega arith, f.2, f.3, f.4, f.5, omega arith, f.7)

module _ (a : ClockConfig) (ws : List ℕ) (hs : List Holder) (id : ℕ) (h h' : Holder) (s v : ℕ) where
  after_store : ClockLaw a ws hs → get_elem? hs id ≡ some h → Stores a ws h h' s v → Moves a ws hs (set ws (seat_place s) v) id h h'
  after_store law at m =
      let ws' : List ℕ = set ws (seat_place s) v in
      let w : write_hand (set ws (seat_place s) v) ≡ write_hand ws = write_after_store ws s v in
      let r : read_hand (set ws (seat_place s) v) ≡ read_hand ws = read_after_store ws s v in
      let f : HolderFits a ws h = law.holders id h at in
      let known : s < a.seats = law.seats.known id s (at_map (λ (x : Holder). x.seat) hs id h at ∙ ap (λ (o : Option ℕ). some o) m.own) in
      let places : place_after_seats a ≤ length ws = law.hands.places in
      let mine : seat_word (set ws (seat_place s) v) s ≡ v = own_after_store ws s v (omega arith) in
      let presence : presence_word a (set ws (seat_place s) v) ≡ presence_word a ws = presence_after_store ws s v a known in
      let scans = same_scans a ws hs id h h' law at m.seat m.scan m.section in
      record {
        seat = m.seat;
        hands = hands_after_store ws s v a law.hands;
        write_not_lower = subst (λ (n : ℕ). write_hand ws ≤ n) (sym w) (omega arith);
        read_not_lower = subst (λ (n : ℕ). read_hand ws ≤ n) (sym r) (omega arith);
        others = λ t k n. other_after_store ws s v t (λ e. n (m.own ∙ ap (λ (x : ℕ). Some x) e));
        seat_words = λ t k.
            ⊎_elim
            (λ e. subst IsSeatWord (sym mine ∙ ap (λ (x : ℕ). seat_word (set ws (seat_place s) v) x) e) m.word)
            (λ n. subst IsSeatWord (sym (other_after_store ws s v t n)) (law.seat_words t k))
            (cases_eq s t);
        other_bits = λ t k n. ap (λ (n : ℕ). bit_at n t) presence;
        presence = subst (λ (n : ℕ). n < 2 ^ a.seats) (sym presence) law.presence;
        balance = let b : h'.advances ≡ h.advances = m.advances in omega arith;
        fits = record {
          seen = subst₂ (λ (x y : ℕ). x ≤ y) (sym m.seen) (sym w) f.seen;
          floor = subst₂ (λ (x y : ℕ). x ≤ y) (sym m.floor) (sym r) f.floor;
          seat = m.seat_fits;
          phase = m.phase_fits (set ws (seat_place s) v) (ap (word_of (set ws (seat_place s) v)) (m.seat ∙ m.own) ∙ mine) w r;
          presence = λ t own. ap (λ (n : ℕ). bit_at n t) presence ∙ m.presence_fits t own;
          task = task_moves a ws (set ws (seat_place s) v) h' h'.task w r m.task_fits;
        };
        pinned = λ j q n g i. subst (λ (x : ℕ). x ≤ q.mark) (sym r) (marks_above_read a ws hs id h h' law j q g i);
        scan = scans.scan;
        section = scans.section;
        own = scans.own;
      }

pub keeps_store : (a : ClockConfig) (id : ℕ) (h h' : Holder) (s v : ℕ)
    → ((ws : List ℕ) (hs : List Holder) → ClockLaw a ws hs → get_elem? hs id ≡ some h → Stores a ws h h' s v)
    → Keeps a id h (seat_place s) (stored v) (λ _. h')
keeps_store a id h h' s v each ws hs law at =
    moved a ws hs (set ws (seat_place s) v) id h h' law at (after_store a ws hs id h h' s v law at (each ws hs law at))

-- ---- the second step of an enter, and exit

low-seat_word : (e : ℕ) → IsOdd e → IsSeatWord (low e)
low-seat_word e p = record { narrow = omega arith; odd = λ _. omega arith }

pub enter_store-keeps : EnterStoreKeeps
enter_store-keeps a id h s own loaded =
    keeps_store a id h (step.enter_stored h) s (step.entry_word h)
    (λ ws hs law at.
    let f : HolderFits a ws h = law.holders id h at in
    let g = in_phase a ws h phase.Loaded f loaded in
    record {
      own = own;
      word = low-seat_word h.loaded g.1;
      seat = refl;
      advances = refl;
      seen = refl;
      floor = refl;
      seat_fits = seat_in_phase a ws h phase.Loaded f loaded;
      phase_fits = λ ws' e w r. (e, g.1, subst (λ (n : ℕ). h.loaded ≤ n) (sym w) g.2);
      presence_fits = presence_in_phase a ws h phase.Loaded f loaded;
      task_fits = task_kept a ws h (step.enter_stored h) h.task refl refl refl refl refl refl f.task;
      scan = record { scanning = λ e. e; covers = λ _ s m c. c };
      section = record { inside = λ e. cc; mark = λ e. cc };
    })

pub clear-keeps : ClearKeeps
clear-keeps a id h s own open_or_late =
    keeps_store a id h (step.cleared h) s 0
    (λ ws hs law at.
    let f : HolderFits a ws h = law.holders id h at in
    record {
      own = own;
      word = record { narrow = omega arith; odd = λ l. absurd (omega arith) };
      seat = refl;
      advances = refl;
      seen = refl;
      floor = refl;
      seat_fits = ⊎_elim (λ e. seat_in_phase a ws h phase.Inside f e) (λ e. seat_in_phase a ws h phase.Late f e) open_or_late;
      phase_fits = λ ws' e w r. e;
      presence_fits = ⊎_elim (λ e. presence_in_phase a ws h phase.Inside f e) (λ e. presence_in_phase a ws h phase.Late f e) open_or_late;
      task_fits = task_kept a ws h (step.cleared h) h.task refl refl refl refl refl refl f.task;
      scan = record { scanning = λ e. e; covers = λ _ s m c. c };
      section = record { inside = λ e. cc; mark = λ e. cc };
    })
