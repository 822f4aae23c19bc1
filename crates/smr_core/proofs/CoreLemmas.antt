-- Each step of the core keeps the core's law, and neither hand is lower after it.
use Rattle.std.proofs.Common.{◌≡◌, ℕ, ◌+◌, ◌<◌, ◌≤◌, List, [], ◌∷◌, ◌++◌, length, set, sym, refl, ap, ◌∙◌, subst, ⊎_elim, inl, arith, Bool, true, false, cond, leb, ltb, Option, Some, None, IsSome, slice_index, slice_set, length-set, Result, Ok, Err, IfOk, OnErr}
use borrow.Author.Tests.{leb-false, le-ltb}
use Rattle.std.proofs.lemmas.List.{map-append, length_push, set-get_or}
use mathlib.Core.Option.{some}
use lib.ListN.{get_elem?}
use Rattle.smr_seq.specs.Reading.{reading}
use Rattle.smr_seq.proofs.ReadingLemmas.{IsReading-reading}
use Rattle.smr_core.specs.declared.clock_core.ClockConfig.{ClockConfig}
use Rattle.smr_core.specs.declared.steps.Actor.{Actor}
use Rattle.smr_core.specs.declared.holder.Holder.{Holder}
use Rattle.smr_core.specs.declared.holder.Phase.{Phase}
use Rattle.smr_core.specs.declared.holder.Phase.TheVariants as phase
use Rattle.smr_core.specs.declared.holder.Task.TheVariants as task
use Rattle.smr_core.specs.declared.turns.Step.{Step}
use Rattle.smr_core.specs.declared.turns.Step.TheVariants.{EnterLoad, EnterStore, EnterCheck, Clear, Leave, Come, AdvanceRead, AdvanceLoad, AdvanceSwap, PollRead, PollLoad, PollPresent, PollScan, PollSwap, Note, Absorb}
use Rattle.smr_core.specs.declared.turns.Seen.{Seen}
use Rattle.smr_core.specs.declared.turns.StepRefused.{StepRefused}
use Rattle.smr_core.specs.ClockState.{write_hand, read_hand, seat_place, write_place, read_place, presence_place, spent}
use Rattle.smr_core.specs.ClockStep as clock
use Rattle.smr_core.specs.ClockLaw.{HolderFits, ClockLaw, Later, Keeps, SeatFits}
use Rattle.smr_core.specs.CoreState.{State, IsActor, CoreLaw, AimFits, holder_of, holders_of, most_holders, seat_at}
use Rattle.smr_core.specs.CoreStep.{IsStep, Moves, taker, poll_goes_on}
use Rattle.smr_core.proofs.PlaceLemmas.{at_map, at_set, at_push, map_set, set_here}
use Rattle.smr_core.proofs.KindLemmas.{by_test, seat_in_phase}
use Rattle.smr_core.proofs.Keeps.Looks.{write_look-keeps}
use Rattle.smr_core.proofs.Keeps.EnterLoad.{enter_load-keeps}
use Rattle.smr_core.proofs.Keeps.EnterCheck.{enter_check-keeps}
use Rattle.smr_core.proofs.Keeps.Stores.{enter_store-keeps, clear-keeps}
use Rattle.smr_core.proofs.Keeps.AdvanceLoads.{advance_read-keeps, advance_load-keeps}
use Rattle.smr_core.proofs.Keeps.PollLoads.{poll_read-keeps, poll_load-keeps, poll_present-keeps, poll_end-keeps}
use Rattle.smr_core.proofs.Keeps.Presences.{leave-keeps, come-keeps}
use Rattle.smr_core.proofs.Keeps.PollScan.{poll_scan-keeps}
use Rattle.smr_core.proofs.Keeps.Swaps.{advance_swap-keeps, poll_swap-keeps}
use Rattle.smr_core.proofs.Keeps.Splits.{note-keeps}
use Rattle.smr_core.proofs.Keeps.Joins.{join-keeps}

-- the law holds after, neither hand is lower, and the numbers are the same
pub record CoreLater (s s' : State) : Type 0 where
  pub law : CoreLaw s'
  pub config : s'.config ≡ s.config
  pub write_not_lower : write_hand s.words ≤ write_hand s'.words
  pub read_not_lower : read_hand s.words ≤ read_hand s'.words

-- ---- the holder of an actor, in the list of holders

pub holder_there : (s : State) (n : ℕ) (x : Actor) → IsActor s n x → get_elem? (holders_of s.actors) n ≡ some x.holder
holder_there s n x at = at_map holder_of s.actors n x at

-- ---- a word and one actor change

module _ (s : State) (id : ℕ) (x y : Actor) (ws' : List ℕ) where
  one_changed : CoreLaw s → IsActor s id x → length ws' ≡ length s.words → Later s.config s.words ws' (set (holders_of s.actors) id y.holder)
      → y.holder.seat ≡ x.holder.seat → AimFits y → CoreLater s (record { config = s.config; words = ws'; actors = set s.actors id y })
  one_changed law at long later seat aim =
      record {
        law = record {
          clock = subst (λ (l : List Holder). ClockLaw s.config ws' l) (sym (map_set holder_of s.actors id y)) later.law;
          words = long ∙ law.words;
          workers = subst (λ (n : ℕ). s.config.seats ≤ n) (sym (length-set s.actors id y)) law.workers;
          few = subst (λ (n : ℕ). n ≤ most_holders) (sym (length-set s.actors id y)) law.few;
          seats = λ n z g.
              ⊎_elim
              (λ t. ap (λ (a : Actor). a.holder.seat) (sym t.1) ∙ seat ∙ law.seats id x at ∙ ap (λ (m : ℕ). seat_at s.config m) (sym t.0))
              (λ t. law.seats n z t.1)
              (at_set s.actors id n y z g);
          aims = λ n z g.
              ⊎_elim
              (λ t. subst (λ (a : Actor). AimFits a) t.1 aim)
              (λ t. law.aims n z t.1)
              (at_set s.actors id n y z g);
        };
        config = refl;
        write_not_lower = later.write_not_lower;
        read_not_lower = later.read_not_lower;
      }

pub core_moved : (s : State) (step : Step) (i : Holder → ℕ) (f : Holder → ℕ → ℕ) (g : Actor → ℕ → Actor) (sees : Actor → ℕ → Seen) (saw : Seen) (s' : State)
    → CoreLaw s → (m : Moves s step i f g sees saw s')
    → Keeps s.config (taker step) m.actor.holder (i m.actor.holder) (f m.actor.holder) (λ found. (g m.actor found).holder)
    → ((found : ℕ) → (g m.actor found).holder.seat ≡ m.actor.holder.seat)
    → ((found : ℕ) → AimFits (g m.actor found))
    → CoreLater s s'
core_moved s step i f g sees saw s' law m keeps seat aim =
    let x : Actor = m.actor in
    let found : ℕ = slice_index s.words (i m.actor.holder) in
    subst (λ (t : State). CoreLater s t) (sym m.after)
    (one_changed s (taker step) m.actor (g m.actor (slice_index s.words (i m.actor.holder))) (slice_set s.words (i m.actor.holder) (f m.actor.holder (slice_index s.words (i m.actor.holder))))
    law m.there (length-set s.words (i m.actor.holder) (f m.actor.holder (slice_index s.words (i m.actor.holder))))
    (keeps s.words (holders_of s.actors) law.clock (holder_there s (taker step) m.actor m.there))
    (seat (slice_index s.words (i m.actor.holder)))
    (aim (slice_index s.words (i m.actor.holder))))

-- ---- the seat of a worker

not_some : IsSome {T = ℕ} None → ⊥
not_some i = cc

-- a holder with a seat has that of its own number
pub seat_of_worker : (a : ClockConfig) (n : ℕ) (o : Option ℕ) → o ≡ seat_at a n → IsSome o → o ≡ Some n
seat_of_worker a n o e i =
    e ∙ by_test (ltb n a.seats) (λ b. IsSome (cond b (Some n) None) → cond b (Some n) None ≡ Some n)
    (λ _ _. refl) (λ _ j. absurd (not_some j)) (subst IsSome e i)

seat_in : (s : State) (n : ℕ) (x : Actor) → CoreLaw s → IsActor s n x → IsSome x.holder.seat → x.holder.seat ≡ Some n
seat_in s n x law at worker = seat_of_worker s.config n x.holder.seat (law.seats n x at) worker

fits : (s : State) (n : ℕ) (x : Actor) → CoreLaw s → IsActor s n x → HolderFits s.config s.words x.holder
fits s n x law at = law.clock.holders n x.holder (holder_there s n x at)

-- a holder that is in no poll, or only at its first load, is after nothing
no_aim : (x : Actor) → (x.holder.task ≡ task.PollLoaded → ⊥) → (x.holder.task ≡ task.Scanning → ⊥) → AimFits x
no_aim x loaded scanning = λ polling. absurd (⊎_elim loaded scanning polling)

-- ---- a poll's load of the write sequence, which goes on or ends

module _ (a : ClockConfig) (id : ℕ) (x : Actor) (ws : List ℕ) (hs : List Holder) where
  goes_on : ClockLaw a ws hs → get_elem? hs id ≡ some x.holder → x.holder.task ≡ task.PollRead → (o : Option ℕ)
      → Later a ws (set ws write_place (write_hand ws)) (set hs id (holder_of (poll_goes_on a x (write_hand ws) o)))
  goes_on law at reads None = poll_end-keeps a id x.holder ws hs law at
  goes_on law at reads (Some goal) =
      by_test (leb goal x.holder.read)
      (λ b. Later a ws (set ws write_place (write_hand ws))
      (set hs id (holder_of (cond b (record x { holder = clock.poll_ended a x.holder (write_hand ws) })
      (record x { holder = clock.poll_loaded a x.holder (write_hand ws); reading = goal })))))
      (λ _. poll_end-keeps a id x.holder ws hs law at)
      (λ _. poll_load-keeps a id x.holder reads ws hs law at)

poll_go-seat : (a : ClockConfig) (x : Actor) (found : ℕ) (o : Option ℕ) → (holder_of (poll_goes_on a x found o)).seat ≡ x.holder.seat
poll_go-seat a x found None = refl
poll_go-seat a x found (Some goal) =
    by_test (leb goal x.holder.read)
    (λ b. (holder_of (cond b (record x { holder = clock.poll_ended a x.holder found }) (record x { holder = clock.poll_loaded a x.holder found; reading = goal }))).seat ≡ x.holder.seat)
    (λ _. refl) (λ _. refl)

poll_go-aim : (a : ClockConfig) (x : Actor) (found : ℕ) (o : Option ℕ) → reading x.tag found ≡ o → AimFits (poll_goes_on a x found o)
poll_go-aim a x found None e = no_aim (record x { holder = clock.poll_ended a x.holder found }) (λ t. cc) (λ t. cc)
poll_go-aim a x found (Some goal) e =
    by_test (leb goal x.holder.read)
    (λ b. AimFits (cond b (record x { holder = clock.poll_ended a x.holder found }) (record x { holder = clock.poll_loaded a x.holder found; reading = goal })))
    (λ _. no_aim (record x { holder = clock.poll_ended a x.holder found }) (λ t. cc) (λ t. cc))
    (λ above polling. (IsReading-reading x.tag found goal e, leb-false goal x.holder.read above))

-- ---- an advance's load of the write sequence

advance_load-as : (a : ClockConfig) (x : Actor) (found : ℕ) (b c : Bool) → Actor
advance_load-as a x found b c =
    record x {
      holder = cond b (clock.advance_ended a x.holder found) (cond c (clock.advance_ended a x.holder found)
          (record (clock.write_loaded a x.holder found) { task = task.AdvLoaded; write = found }));
    }

advance_load-seat : (a : ClockConfig) (x : Actor) (found : ℕ) (b c : Bool) → (advance_load-as a x found b c).holder.seat ≡ x.holder.seat
unfolding advance_load-as
advance_load-seat a x found true c = refl
advance_load-seat a x found false true = refl
advance_load-seat a x found false false = refl

advance_load-aim : (a : ClockConfig) (x : Actor) (found : ℕ) (b c : Bool) → AimFits (advance_load-as a x found b c)
unfolding advance_load-as
advance_load-aim a x found true c = no_aim (advance_load-as a x found true c) (λ t. cc) (λ t. cc)
advance_load-aim a x found false true = no_aim (advance_load-as a x found false true) (λ t. cc) (λ t. cc)
advance_load-aim a x found false false = no_aim (advance_load-as a x found false false) (λ t. cc) (λ t. cc)

-- ---- a note

module _ (s : State) (id : ℕ) (x : Actor) where
  -- the worker after its load of the write sequence, and the note
  worker : Actor
  worker = record x { holder = clock.write_loaded s.config x.holder (write_hand s.words) }

  note : Actor
  note = record { holder = clock.note_of worker.holder; tag = 0; reading = 0 }

  no_seat : (n : ℕ) → s.config.seats ≤ n → None ≡ seat_at s.config n
  no_seat n le = ap (λ (b : Bool). cond b (Some n) None) (sym (le-ltb n s.config.seats le))

  looked : State
  looked = record { config = s.config; words = s.words; actors = set s.actors id worker }

  after_look : CoreLaw s → IsActor s id x → CoreLater s looked
  unfolding worker looked
  after_look law at =
      one_changed s id x worker s.words law at refl
      (subst (λ (l : List ℕ). Later s.config s.words l (set (holders_of s.actors) id worker.holder)) (set-get_or s.words write_place 0)
      (write_look-keeps s.config id x.holder s.words (holders_of s.actors) law.clock (holder_there s id x at)))
      refl (law.aims id x at)

  noted : State
  noted = record { config = s.config; words = s.words; actors = set s.actors id worker ++ note ∷ [] }

  after_note : CoreLaw s → IsActor s id x → length s.actors < most_holders → CoreLater s noted
  unfolding worker note looked noted
  after_note law at room =
      let look = after_look law at in
      let here : IsActor looked id worker = set_here s.actors id worker x at in
      let split = note-keeps s.config id worker.holder s.words (holders_of looked.actors) look.law.clock (holder_there looked id worker here) in
      let as_map : holders_of (looked.actors ++ note ∷ []) ≡ holders_of looked.actors ++ note.holder ∷ [] = map-append holder_of looked.actors (note ∷ []) in
      let long : length looked.actors ≡ length s.actors = length-set s.actors id worker in
      let longer : length (looked.actors ++ note ∷ []) ≡ length looked.actors + 1 = length_push looked.actors note in
      let workers : s.config.seats ≤ length s.actors = law.workers in
      record {
        law = record {
          clock = subst (λ (l : List Holder). ClockLaw s.config s.words l) (sym as_map) split.law;
          words = law.words;
          workers = omega arith;
          few = omega arith;
          seats = λ n z g.
              ⊎_elim
              (λ t. look.law.seats n z t)
              (λ t. ap (λ (a : Actor). a.holder.seat) (sym t.1) ∙ no_seat n (omega arith))
              (at_push looked.actors note z n g);
          aims = λ n z g.
              ⊎_elim
              (λ t. look.law.aims n z t)
              (λ t. subst (λ (a : Actor). AimFits a) t.1 (no_aim note (λ e. cc) (λ e. cc)))
              (at_push looked.actors note z n g);
        };
        config = refl;
        write_not_lower = omega arith;
        read_not_lower = omega arith;
      }

-- ---- a join

module _ (s : State) (id at : ℕ) (x y : Actor) where
  taker_after : Actor
  taker_after = record x { holder = clock.joined x.holder y.holder }

  note_after : Actor
  note_after = record y { holder = spent }

  joined_list : List Actor
  joined_list = set (set s.actors id taker_after) at note_after

  joined : State
  joined = record { config = s.config; words = s.words; actors = joined_list }

  holders_after : holders_of joined_list ≡ set (set (holders_of s.actors) id (clock.joined x.holder y.holder)) at spent
  unfolding taker_after note_after joined_list
  holders_after =
      map_set holder_of (set s.actors id taker_after) at note_after
      ∙ ap (λ (l : List Holder). set l at spent) (map_set holder_of s.actors id taker_after)

  long_after : length joined_list ≡ length s.actors
  unfolding joined_list
  long_after = length-set (set s.actors id taker_after) at note_after ∙ length-set s.actors id taker_after

  after_join : CoreLaw s → IsActor s id x → IsActor s at y → (at ≡ id → ⊥) → y.holder.phase ≡ phase.Note → CoreLater s joined
  unfolding taker_after note_after joined_list joined
  after_join law here there apart note =
      let later = join-keeps s.config id x.holder at y.holder apart note s.words (holders_of s.actors) law.clock (holder_there s id x here) (holder_there s at y there) in
      let none : y.holder.seat ≡ None = seat_in_phase s.config s.words y.holder phase.Note (fits s at y law there) note in
      record {
        law = record {
          clock = subst (λ (l : List Holder). ClockLaw s.config s.words l) (sym holders_after) later.law;
          words = law.words;
          workers = subst (λ (n : ℕ). s.config.seats ≤ n) (sym long_after) law.workers;
          few = subst (λ (n : ℕ). n ≤ most_holders) (sym long_after) law.few;
          seats = λ n z g.
              ⊎_elim
              (λ t. ap (λ (a : Actor). a.holder.seat) (sym t.1) ∙ sym none ∙ law.seats at y there ∙ ap (λ (m : ℕ). seat_at s.config m) (sym t.0))
              (λ t. ⊎_elim
              (λ u. ap (λ (a : Actor). a.holder.seat) (sym u.1) ∙ law.seats id x here ∙ ap (λ (m : ℕ). seat_at s.config m) (sym u.0))
              (λ u. law.seats n z u.1)
              (at_set s.actors id n taker_after z t.1))
              (at_set (set s.actors id taker_after) at n note_after z g);
          aims = λ n z g.
              ⊎_elim
              (λ t. subst (λ (a : Actor). AimFits a) t.1 (no_aim note_after (λ e. cc) (λ e. cc)))
              (λ t. ⊎_elim
              (λ u. subst (λ (a : Actor). AimFits a) u.1 (law.aims id x here))
              (λ u. law.aims n z u.1)
              (at_set s.actors id n taker_after z t.1))
              (at_set (set s.actors id taker_after) at n note_after z g);
        };
        config = refl;
        write_not_lower = later.write_not_lower;
        read_not_lower = later.read_not_lower;
      }

-- ---- every step

seat_of_phase : (p : Phase) (q : Phase) (o : Option ℕ) → SeatFits o p → p ≡ q → SeatFits o q
seat_of_phase p q o f e = subst (λ (r : Phase). SeatFits o r) e f

module _ (s s' : State) (saw : Seen) (law : CoreLaw s) where
  enter_store_kept : (n : ℕ) → IsStep s (EnterStore n) saw s' → CoreLater s s'
  enter_store_kept n m =
      let f = fits s n m.actor law m.there in
      let mine : m.actor.holder.seat ≡ Some n = seat_in s n m.actor law m.there (seat_of_phase m.actor.holder.phase phase.Loaded m.actor.holder.seat f.seat m.needs) in
      core_moved s (EnterStore n) (λ h. seat_place n) (λ h. clock.stored (clock.entry_word h)) (λ x found. record x { holder = clock.enter_stored x.holder }) _ saw s' law m
      (enter_store-keeps s.config n m.actor.holder n mine m.needs) (λ found. refl) (λ found. law.aims n m.actor m.there)

  clear_kept : (n : ℕ) → IsStep s (Clear n) saw s' → CoreLater s s'
  clear_kept n m =
      let f = fits s n m.actor law m.there in
      let has : IsSome m.actor.holder.seat =
      ⊎_elim (λ e. seat_of_phase m.actor.holder.phase phase.Inside m.actor.holder.seat f.seat e) (λ e. seat_of_phase m.actor.holder.phase phase.Late m.actor.holder.seat f.seat e) m.needs in
      let mine : m.actor.holder.seat ≡ Some n = seat_in s n m.actor law m.there has in
      core_moved s (Clear n) (λ h. seat_place n) (λ h. clock.stored 0) (λ x found. record x { holder = clock.cleared x.holder }) _ saw s' law m
      (clear-keeps s.config n m.actor.holder n mine m.needs) (λ found. refl) (λ found. law.aims n m.actor m.there)

  leave_kept : (n : ℕ) → IsStep s (Leave n) saw s' → CoreLater s s'
  leave_kept n m =
      let f = fits s n m.actor law m.there in
      let mine : m.actor.holder.seat ≡ Some n = seat_in s n m.actor law m.there (seat_of_phase m.actor.holder.phase phase.Outside m.actor.holder.seat f.seat m.needs.0) in
      core_moved s (Leave n) (λ h. presence_place s.config) (λ h. clock.without n) (λ x found. record x { holder = clock.left x.holder }) _ saw s' law m
      (leave-keeps s.config n m.actor.holder n mine m.needs.0 m.needs.1) (λ found. refl) (λ found. law.aims n m.actor m.there)

  come_kept : (n : ℕ) → IsStep s (Come n) saw s' → CoreLater s s'
  come_kept n m =
      let f = fits s n m.actor law m.there in
      let mine : m.actor.holder.seat ≡ Some n = seat_in s n m.actor law m.there (seat_of_phase m.actor.holder.phase phase.Vacant m.actor.holder.seat f.seat m.needs) in
      core_moved s (Come n) (λ h. presence_place s.config) (λ h. clock.with_seat n) (λ x found. record x { holder = clock.came x.holder }) _ saw s' law m
      (come-keeps s.config n m.actor.holder n mine m.needs) (λ found. refl) (λ found. law.aims n m.actor m.there)

  enter_load_kept : (n : ℕ) → IsStep s (EnterLoad n) saw s' → CoreLater s s'
  enter_load_kept n m =
      core_moved s (EnterLoad n) (λ h. write_place) (λ h. clock.same) (λ x found. record x { holder = clock.enter_loaded s.config x.holder found }) _ saw s' law m
      (enter_load-keeps s.config n m.actor.holder m.needs) (λ found. refl) (λ found. law.aims n m.actor m.there)

  enter_check_kept : (n : ℕ) → IsStep s (EnterCheck n) saw s' → CoreLater s s'
  enter_check_kept n m =
      core_moved s (EnterCheck n) (λ h. write_place) (λ h. clock.same) (λ x found. record x { holder = clock.enter_checked s.config x.holder found }) _ saw s' law m
      (enter_check-keeps s.config n m.actor.holder m.needs) (λ found. refl) (λ found. law.aims n m.actor m.there)

  advance_read_kept : (n : ℕ) → IsStep s (AdvanceRead n) saw s' → CoreLater s s'
  advance_read_kept n m =
      core_moved s (AdvanceRead n) (λ h. read_place) (λ h. clock.same) (λ x found. record x { holder = clock.advance_read x.holder found }) _ saw s' law m
      (advance_read-keeps s.config n m.actor.holder m.needs.0.0 m.needs.0.1) (λ found. refl)
      (λ found. no_aim (record m.actor { holder = clock.advance_read m.actor.holder found }) (λ e. cc) (λ e. cc))

  advance_load_kept : (n : ℕ) → IsStep s (AdvanceLoad n) saw s' → CoreLater s s'
  unfolding advance_load-as
  advance_load_kept n m =
      core_moved s (AdvanceLoad n) (λ h. write_place) (λ h. clock.same) (λ x found. record x { holder = clock.advance_loaded s.config x.holder found }) _ saw s' law m
      (advance_load-keeps s.config n m.actor.holder m.needs)
      (λ found. advance_load-seat s.config m.actor found (clock.is_spent found) (clock.is_too_far s.config m.actor.holder.read found))
      (λ found. advance_load-aim s.config m.actor found (clock.is_spent found) (clock.is_too_far s.config m.actor.holder.read found))

  advance_swap_kept : (n : ℕ) → IsStep s (AdvanceSwap n) saw s' → CoreLater s s'
  advance_swap_kept n m =
      core_moved s (AdvanceSwap n) (λ h. write_place) (λ h. clock.exchanged h.write (clock.goal_of h)) (λ x found. record x { holder = clock.advance_swapped x.holder found }) _ saw s' law m
      (advance_swap-keeps s.config n m.actor.holder m.needs) (λ found. refl)
      (λ found. no_aim (record m.actor { holder = clock.advance_swapped m.actor.holder found }) (λ e. cc) (λ e. cc))

  poll_read_kept : (n tag : ℕ) → IsStep s (PollRead n tag) saw s' → CoreLater s s'
  poll_read_kept n tag m =
      core_moved s (PollRead n tag) (λ h. read_place) (λ h. clock.same) (λ x found. record x { holder = clock.poll_read x.holder found; tag = tag }) _ saw s' law m
      (poll_read-keeps s.config n m.actor.holder (⊎_elim (λ w. w.1) (λ note vacant. absurd (cc)) m.needs.0)) (λ found. refl)
      (λ found. no_aim (record m.actor { holder = clock.poll_read m.actor.holder found; tag = tag }) (λ e. cc) (λ e. cc))

  poll_load_kept : (n : ℕ) → IsStep s (PollLoad n) saw s' → CoreLater s s'
  poll_load_kept n m =
      core_moved s (PollLoad n) (λ h. write_place) (λ h. clock.same) (λ x found. poll_goes_on s.config x found (reading x.tag found)) _ saw s' law m
      (λ ws hs law' there. goes_on s.config n m.actor ws hs law' there m.needs (reading m.actor.tag (write_hand ws)))
      (λ found. poll_go-seat s.config m.actor found (reading m.actor.tag found))
      (λ found. poll_go-aim s.config m.actor found (reading m.actor.tag found) refl)

  poll_present_kept : (n : ℕ) → IsStep s (PollPresent n) saw s' → CoreLater s s'
  poll_present_kept n m =
      core_moved s (PollPresent n) (λ h. presence_place s.config) (λ h. clock.same) (λ x found. record x { holder = clock.poll_present s.config x.holder found }) _ saw s' law m
      (poll_present-keeps s.config n m.actor.holder m.needs) (λ found. refl) (λ found polling. law.aims n m.actor m.there (inl m.needs))

  poll_scan_kept : (n : ℕ) → IsStep s (PollScan n) saw s' → CoreLater s s'
  poll_scan_kept n m =
      core_moved s (PollScan n) (λ h. seat_place h.scanned) (λ h. clock.same) (λ x found. record x { holder = clock.poll_scanned s.config x.holder found }) _ saw s' law m
      (poll_scan-keeps s.config n m.actor.holder m.needs.0 m.needs.1) (λ found. refl) (λ found. law.aims n m.actor m.there)

  poll_swap_kept : (n : ℕ) → IsStep s (PollSwap n) saw s' → CoreLater s s'
  poll_swap_kept n m =
      core_moved s (PollSwap n) (λ h. read_place) (λ h. clock.exchanged h.read h.least) (λ x found. record x { holder = clock.poll_swapped x.holder found }) _ saw s' law m
      (poll_swap-keeps s.config n m.actor.holder m.needs.0 m.needs.1) (λ found. refl)
      (λ found. no_aim (record m.actor { holder = clock.poll_swapped m.actor.holder found }) (λ e. cc) (λ e. cc))

  note_kept : (n : ℕ) → IsStep s (Note n) saw s' → CoreLater s s'
  unfolding worker note noted
  note_kept n m = subst (λ (t : State). CoreLater s t) (sym m.after) (after_note s n m.actor law m.there m.room)

  absorb_kept : (n other : ℕ) → IsStep s (Absorb n other) saw s' → CoreLater s s'
  unfolding taker_after note_after joined_list joined
  absorb_kept n other m =
      let none : m.note.holder.seat ≡ None = seat_in_phase s.config s.words m.note.holder phase.Note (fits s other m.note law m.note_there) m.note_needs.0 in
      subst (λ (t : State). CoreLater s t) (sym m.after)
      (after_join s n other m.actor m.note law m.there m.note_there
      (λ e. not_some (subst IsSome (law.seats n m.actor m.there ∙ ap (λ (k : ℕ). seat_at s.config k) (sym e) ∙ sym (law.seats other m.note m.note_there) ∙ none) m.needs.0.0))
      m.note_needs.0)

-- Each step keeps the core's law, from every state in which it holds.
pub core_keeps : (s : State) (step : Step) (saw : Seen) (s' : State) → CoreLaw s → IsStep s step saw s' → CoreLater s s'
core_keeps s (EnterLoad n) saw s' law m = enter_load_kept s s' saw law n m
core_keeps s (EnterStore n) saw s' law m = enter_store_kept s s' saw law n m
core_keeps s (EnterCheck n) saw s' law m = enter_check_kept s s' saw law n m
core_keeps s (Clear n) saw s' law m = clear_kept s s' saw law n m
core_keeps s (Leave n) saw s' law m = leave_kept s s' saw law n m
core_keeps s (Come n) saw s' law m = come_kept s s' saw law n m
core_keeps s (AdvanceRead n) saw s' law m = advance_read_kept s s' saw law n m
core_keeps s (AdvanceLoad n) saw s' law m = advance_load_kept s s' saw law n m
core_keeps s (AdvanceSwap n) saw s' law m = advance_swap_kept s s' saw law n m
core_keeps s (PollRead n tag) saw s' law m = poll_read_kept s s' saw law n tag m
core_keeps s (PollLoad n) saw s' law m = poll_load_kept s s' saw law n m
core_keeps s (PollPresent n) saw s' law m = poll_present_kept s s' saw law n m
core_keeps s (PollScan n) saw s' law m = poll_scan_kept s s' saw law n m
core_keeps s (PollSwap n) saw s' law m = poll_swap_kept s s' saw law n m
core_keeps s (Note n) saw s' law m = note_kept s s' saw law n m
core_keeps s (Absorb n other) saw s' law m = absorb_kept s s' saw law n other m

-- What a core answers to a step, its law holds after it.
pub law_after : (s s' : State) (step : Step) (result : Result Seen StepRefused) → CoreLaw s → IfOk result (λ saw. IsStep s step saw s') → OnErr result (s' ≡ s) → CoreLaw s'
law_after s s' step (Ok saw) law stepped unchanged = (core_keeps s step saw s' law stepped).law
law_after s s' step (Err refused) law stepped unchanged = subst CoreLaw (sym unchanged) law
