-- The two compare-exchanges keep the law. Each has two lemmas: it finds what it had loaded and writes, or it is a mere look.
use Rattle.std.proofs.Common.{◌≡◌, ℕ, ◌+◌, ◌-◌, ◌^◌, ◌<◌, ◌≤◌, List, length, set, sym, refl, ap, ◌∙◌, subst, ⊎_elim, le_trans, arith, max, cond, eqb, Option, Some, None, IsSome, length-set, get_or-set_same, get_or-set_other}
use borrow.Author.Tests.{eqb-true, eqb-false}
use Rattle.std.proofs.lemmas.List.{set-get_or}
use Rattle.std.specs.Int.{bit_at}
use mathlib.Core.Option.{some}
use lib.ListN.{get_elem?}
use Rattle.smr_core.specs.declared.clock_core.ClockConfig.{ClockConfig}
use Rattle.smr_core.specs.declared.holder.Holder.{Holder}
use Rattle.smr_core.specs.declared.holder.Phase.{Phase}
use Rattle.smr_core.specs.declared.holder.Phase.TheVariants as phase
use Rattle.smr_core.specs.declared.holder.Task.TheVariants as task
use Rattle.smr_core.specs.ClockState.{IsOdd, place_after_seats, presence_place, presence_word, write_hand, read_hand, seat_word, seat_place, write_place, read_place, word_of}
use Rattle.smr_core.specs.ClockStep as step
use Rattle.smr_core.specs.ClockStep.{exchanged}
use Rattle.smr_core.specs.ClockLaw.{HandsFit, PhaseFits, SeatFits, TaskFits, HolderFits, ClockLaw, Later}
use Rattle.smr_core.proofs.PlaceLemmas.{at_map}
use Rattle.smr_core.proofs.PresenceLemmas.{present_or_absent}
use Rattle.smr_core.specs.ClockMoves.{AdvanceSwapKeeps, PollSwapKeeps}
use Rattle.smr_core.proofs.MoveLemmas.{Moves, moved, fits_still}
use Rattle.smr_core.proofs.KindLemmas.{by_test, in_task, seat_in_phase, phase_kept, same_scans, marks_above_read, Loads, loads}
use Rattle.smr_core.specs.ClockState.{IsSeatWord}

-- the words after a hand is written: the place is below those of the seats and of the presence word
module _ (ws : List ℕ) (i v : ℕ) (hand : i < 16) where
  seat_word_after : (s : ℕ) → seat_word (set ws i v) s ≡ seat_word ws s
  seat_word_after s = get_or-set_other ws i (seat_place s) v 0 (λ e. omega arith)

  presence_after : (a : ClockConfig) → presence_word a (set ws i v) ≡ presence_word a ws
  presence_after a = get_or-set_other ws i (presence_place a) v 0 (λ e. omega arith)

  bit_after : (a : ClockConfig) (s : ℕ) → bit_at (presence_word a (set ws i v)) s ≡ bit_at (presence_word a ws) s
  bit_after a s = ap (λ (n : ℕ). bit_at n s) (presence_after a)

  word_of_after : (o : Option ℕ) → word_of (set ws i v) o ≡ word_of ws o
  word_of_after None = refl
  word_of_after (Some s) = seat_word_after s

-- ---- the write sequence

abbrev IsWorkersPhase : Phase → Type 0
IsWorkersPhase phase.Note = ⊥
IsWorkersPhase phase.Absorbed = ⊥
IsWorkersPhase _ = Unit {0}

not_some : IsSome {T = ℕ} None → ⊥
not_some i = cc

workers_phase : (o : Option ℕ) (p : Phase) → SeatFits o p → IsSome o → IsWorkersPhase p
workers_phase o phase.Outside f i = tt
workers_phase o phase.Loaded f i = tt
workers_phase o phase.Stored f i = tt
workers_phase o phase.Inside f i = tt
workers_phase o phase.Late f i = tt
workers_phase o phase.Vacant f i = tt
workers_phase o phase.Note f i = not_some (subst IsSome f i)
workers_phase o phase.Absorbed f i = not_some (subst IsSome f i)

-- It finds what the advance had loaded: two more, for which the advance has seen that there is room.
module _ (a : ClockConfig) (ws : List ℕ) (hs : List Holder) (id : ℕ) (h : Holder) where
  risen : Holder
  risen = record h { task = task.Idle; seen = max h.seen (h.write + 2); advances = h.advances + 1 }

  looked : Holder
  looked = record h { task = task.Idle; seen = max h.seen (write_hand ws); advances = h.advances + 0 }

  -- a worker's phase says nothing of its advances
  phase_risen : (ws' : List ℕ) (p : Phase) → PhaseFits a ws' h p → IsWorkersPhase p → PhaseFits a ws' risen p
  unfolding risen
  phase_risen ws' phase.Outside f k = f
  phase_risen ws' phase.Loaded f k = f
  phase_risen ws' phase.Stored f k = f
  phase_risen ws' phase.Inside f k = (f.0, f.1, f.2, omega arith, f.4, f.5)
  phase_risen ws' phase.Late f k = f
  phase_risen ws' phase.Vacant f k = (f.0, refl)
  phase_risen ws' phase.Note f k = absurd k
  phase_risen ws' phase.Absorbed f k = absurd k

  advance_hits : ClockLaw a ws hs → get_elem? hs id ≡ some h → h.task ≡ task.AdvLoaded → write_hand ws ≡ h.write
      → Moves a ws hs (set ws write_place (h.write + 2)) id h risen
  unfolding risen
  advance_hits law at loaded hit =
      let f : HolderFits a ws h = law.holders id h at in
      let t = in_task a ws h task.AdvLoaded f loaded in
      let places : place_after_seats a ≤ length ws = law.hands.places in
      let w : write_hand (set ws write_place (h.write + 2)) ≡ h.write + 2 = get_or-set_same ws write_place (h.write + 2) 0 (omega arith) in
      let r : read_hand (set ws write_place (h.write + 2)) ≡ read_hand ws = get_or-set_other ws write_place read_place (h.write + 2) 0 (λ e. omega arith) in
      let odd : IsOdd (write_hand ws) = law.hands.odd_write in
      let order : read_hand ws ≤ write_hand ws = law.hands.in_order in
      let room : h.write + 2 < 2 ^ 63 = t.4 in
      let near : h.write + 2 - h.read ≤ a.window = t.3 in
      let read : h.read ≤ read_hand ws = t.1 in
      let seen : h.seen ≤ write_hand ws = f.seen in
      let floor : h.floor ≤ read_hand ws = f.floor in
      let scans = same_scans a ws hs id h risen law at refl (record { scanning = λ e. cc; covers = λ e s m c. absurd (cc) }) (record { inside = λ e. e; mark = λ _. refl }) in
      let still : HolderFits a (set ws write_place (h.write + 2)) h =
      fits_still a ws (set ws write_place (h.write + 2)) h f (word_of_after ws write_place (h.write + 2) (omega arith) h.seat)
      (λ s _. bit_after ws write_place (h.write + 2) (omega arith) a s) (omega arith) (omega arith)
      (λ i. subst (λ (n : ℕ). n ≤ h.mark) (sym r) (marks_above_read a ws hs id h risen law id h at i)) in
      record {
        seat = refl;
        hands = record {
          places = subst (λ (n : ℕ). place_after_seats a ≤ n) (sym (length-set ws write_place (h.write + 2))) law.hands.places;
          odd_write = subst IsOdd (sym w) (omega arith);
          odd_read = subst IsOdd (sym r) law.hands.odd_read;
          from_start = subst (λ (n : ℕ). a.start ≤ n) (sym r) law.hands.from_start;
          in_order = omega arith;
          in_range = omega arith;
          within_window = omega arith;
        };
        write_not_lower = omega arith;
        read_not_lower = omega arith;
        others = λ s k n. seat_word_after ws write_place (h.write + 2) (omega arith) s;
        seat_words = λ s k. subst IsSeatWord (sym (seat_word_after ws write_place (h.write + 2) (omega arith) s)) (law.seat_words s k);
        other_bits = λ s k n. bit_after ws write_place (h.write + 2) (omega arith) a s;
        presence = subst (λ (n : ℕ). n < 2 ^ a.seats) (sym (presence_after ws write_place (h.write + 2) (omega arith) a)) law.presence;
        balance = omega arith;
        fits = record {
          seen = omega arith;
          floor = still.floor;
          seat = f.seat;
          phase = phase_risen (set ws write_place (h.write + 2)) h.phase still.phase (workers_phase h.seat h.phase f.seat t.0);
          presence = still.presence;
          task = tt;
        };
        pinned = λ j q n g i. subst (λ (x : ℕ). x ≤ q.mark) (sym r) (marks_above_read a ws hs id h risen law j q g i);
        scan = scans.scan;
        section = scans.section;
        own = scans.own;
      }

  advance_looks : ClockLaw a ws hs → get_elem? hs id ≡ some h → h.task ≡ task.AdvLoaded → Loads a ws hs id h looked
  unfolding looked
  advance_looks law at loaded =
      let f : HolderFits a ws h = law.holders id h at in
      let seen : h.seen ≤ write_hand ws = f.seen in
      record {
        seat = refl;
        advances = omega arith;
        fits = record {
          seen = omega arith;
          floor = f.floor;
          seat = f.seat;
          phase = phase_kept a ws h looked h.phase refl refl refl (omega arith) (omega arith) (λ _ _. refl) f.phase;
          presence = f.presence;
          task = tt;
        };
        scans = same_scans a ws hs id h looked law at refl (record { scanning = λ e. cc; covers = λ e s m c. absurd (cc) }) (record { inside = λ e. e; mark = λ _. refl });
      }

pub advance_swap-keeps : AdvanceSwapKeeps
unfolding risen looked
advance_swap-keeps a id h loaded ws hs law at =
    by_test (eqb (write_hand ws) h.write)
    (λ b. Later a ws (set ws write_place (cond b (h.write + 2) (write_hand ws)))
    (set hs id (record h { task = task.Idle; seen = max h.seen (cond b (h.write + 2) (write_hand ws)); advances = h.advances + cond b 1 0 })))
    (λ e. moved a ws hs (set ws write_place (h.write + 2)) id h (risen a ws hs id h) law at
    (advance_hits a ws hs id h law at loaded (eqb-true (write_hand ws) h.write e)))
    (λ e. subst (λ (l : List ℕ). Later a ws l (set hs id (looked a ws hs id h))) (sym (set-get_or ws write_place 0))
    (loads a ws hs id h (looked a ws hs id h) law at (advance_looks a ws hs id h law at loaded)))

-- Whether or not it hits, the goal is at most the write sequence that it leaves.
pub goal-le-left : (a : ClockConfig) (ws : List ℕ) (h : Holder) → HandsFit a ws → TaskFits a ws h task.AdvLoaded
    → step.goal_of h ≤ exchanged h.write (step.goal_of h) (write_hand ws)
goal-le-left a ws h hands t =
    by_test (eqb (write_hand ws) h.write) (λ b. h.write + 2 ≤ cond b (h.write + 2) (write_hand ws))
    (λ _. omega arith)
    (λ e.
    let apart : write_hand ws ≡ h.write → ⊥ = eqb-false (write_hand ws) h.write e in
    let below : h.write ≤ write_hand ws = t.2 in
    let odd : IsOdd (write_hand ws) = hands.odd_write in
    let odd' : IsOdd h.write = t.5 in omega arith)

-- ---- the read sequence

-- It finds what the poll had loaded. Every seat of its set was scanned, and a section of another is at or above its write sequence, so the least mark is at most every section's.
module _ (a : ClockConfig) (ws : List ℕ) (hs : List Holder) (id : ℕ) (h : Holder) where
  raised : Holder
  raised = record h { task = task.Idle; floor = max h.floor h.least }

  found : Holder
  found = record h { task = task.Idle; floor = max h.floor (read_hand ws) }

  some_seat : (o : Option ℕ) → IsSome o → (s : ℕ) × (o ≡ Some s)
  some_seat None i = absurd (not_some i)
  some_seat (Some s) i = (s, refl)

  pub marks_above_least : ClockLaw a ws hs → get_elem? hs id ≡ some h → h.task ≡ task.Scanning → h.scanned ≡ a.seats
      → (j : ℕ) (q : Holder) → get_elem? hs j ≡ some q → q.phase ≡ phase.Inside → h.least ≤ q.mark
  marks_above_least law at scanning all j q g inside =
      let t = in_task a ws h task.Scanning (law.holders id h at) scanning in
      let seat = some_seat q.seat (seat_in_phase a ws q phase.Inside (law.holders j q g) inside) in
      let known : seat.0 < a.seats = law.seats.known j seat.0 (at_map (λ (x : Holder). x.seat) hs j q g ∙ ap (λ (o : Option ℕ). some o) seat.1) in
      let covers = law.scans id j seat.0 h q at g scanning inside seat.1 in
      ⊎_elim
      (λ present. covers.0 present (omega arith))
      (λ absent. le_trans t.4 (covers.1 absent))
      (present_or_absent h.present seat.0)

  poll_hits : ClockLaw a ws hs → get_elem? hs id ≡ some h → h.task ≡ task.Scanning → h.scanned ≡ a.seats → read_hand ws ≡ h.read
      → Moves a ws hs (set ws read_place h.least) id h raised
  unfolding raised
  poll_hits law at scanning all hit =
      let f : HolderFits a ws h = law.holders id h at in
      let t = in_task a ws h task.Scanning f scanning in
      let places : place_after_seats a ≤ length ws = law.hands.places in
      let w : write_hand (set ws read_place h.least) ≡ write_hand ws = get_or-set_other ws read_place write_place h.least 0 (λ e. omega arith) in
      let r : read_hand (set ws read_place h.least) ≡ h.least = get_or-set_same ws read_place h.least 0 (omega arith) in
      let above : h.read ≤ h.least = t.3 in
      let below : h.least ≤ h.write = t.4 in
      let write : h.write ≤ write_hand ws = t.6 in
      let start : a.start ≤ read_hand ws = law.hands.from_start in
      let window : write_hand ws - read_hand ws ≤ a.window = law.hands.within_window in
      let seen : h.seen ≤ write_hand ws = f.seen in
      let floor : h.floor ≤ read_hand ws = f.floor in
      let scans = same_scans a ws hs id h raised law at refl (record { scanning = λ e. cc; covers = λ e s m c. absurd (cc) }) (record { inside = λ e. e; mark = λ _. refl }) in
      let still : HolderFits a (set ws read_place h.least) h =
      fits_still a ws (set ws read_place h.least) h f (word_of_after ws read_place h.least (omega arith) h.seat)
      (λ s _. bit_after ws read_place h.least (omega arith) a s) (omega arith) (omega arith)
      (λ i. subst (λ (n : ℕ). n ≤ h.mark) (sym r) (marks_above_least law at scanning all id h at i)) in
      record {
        seat = refl;
        hands = record {
          places = subst (λ (n : ℕ). place_after_seats a ≤ n) (sym (length-set ws read_place h.least)) law.hands.places;
          odd_write = subst IsOdd (sym w) law.hands.odd_write;
          odd_read = subst IsOdd (sym r) t.2;
          from_start = omega arith;
          in_order = omega arith;
          in_range = subst (λ (n : ℕ). n < 2 ^ 63) (sym w) law.hands.in_range;
          within_window = omega arith;
        };
        write_not_lower = omega arith;
        read_not_lower = omega arith;
        others = λ s k n. seat_word_after ws read_place h.least (omega arith) s;
        seat_words = λ s k. subst IsSeatWord (sym (seat_word_after ws read_place h.least (omega arith) s)) (law.seat_words s k);
        other_bits = λ s k n. bit_after ws read_place h.least (omega arith) a s;
        presence = subst (λ (n : ℕ). n < 2 ^ a.seats) (sym (presence_after ws read_place h.least (omega arith) a)) law.presence;
        balance = omega arith;
        fits = record {
          seen = still.seen;
          floor = omega arith;
          seat = f.seat;
          phase = phase_kept a (set ws read_place h.least) h raised h.phase refl refl refl (omega arith) refl (λ _ _. refl) still.phase;
          presence = still.presence;
          task = tt;
        };
        pinned = λ j q n g i. subst (λ (x : ℕ). x ≤ q.mark) (sym r) (marks_above_least law at scanning all j q g i);
        scan = scans.scan;
        section = scans.section;
        own = scans.own;
      }

  poll_looks : ClockLaw a ws hs → get_elem? hs id ≡ some h → Loads a ws hs id h found
  unfolding found
  poll_looks law at =
      let f : HolderFits a ws h = law.holders id h at in
      let floor : h.floor ≤ read_hand ws = f.floor in
      record {
        seat = refl;
        advances = refl;
        fits = record {
          seen = f.seen;
          floor = omega arith;
          seat = f.seat;
          phase = phase_kept a ws h found h.phase refl refl refl (omega arith) refl (λ _ _. refl) f.phase;
          presence = f.presence;
          task = tt;
        };
        scans = same_scans a ws hs id h found law at refl (record { scanning = λ e. cc; covers = λ e s m c. absurd (cc) }) (record { inside = λ e. e; mark = λ _. refl });
      }

pub poll_swap-keeps : PollSwapKeeps
unfolding raised found
poll_swap-keeps a id h scanning all ws hs law at =
    by_test (eqb (read_hand ws) h.read)
    (λ b. Later a ws (set ws read_place (cond b h.least (read_hand ws)))
    (set hs id (record h { task = task.Idle; floor = max h.floor (cond b h.least (read_hand ws)) })))
    (λ e. moved a ws hs (set ws read_place h.least) id h (raised a ws hs id h) law at
    (poll_hits a ws hs id h law at scanning all (eqb-true (read_hand ws) h.read e)))
    (λ e. subst (λ (l : List ℕ). Later a ws l (set hs id (found a ws hs id h))) (sym (set-get_or ws read_place 0))
    (loads a ws hs id h (found a ws hs id h) law at (poll_looks a ws hs id h law at)))
