-- That each kind of step keeps the clock's law, from every state in which it holds, and that it holds where a clock begins.
use Rattle.std.specs.Prelude.{◌≡◌, ◌≢◌, ℕ, ◌<◌, ◌≤◌, ◌⊎◌, List, [], ◌∷◌, ◌++◌, Some, IsSome, slice_set}
use mathlib.Core.Option.{some}
use lib.ListN.{get_elem?}
use Rattle.smr_core.specs.declared.clock_core.ClockConfig.{ClockConfig}
use Rattle.smr_core.specs.declared.holder.Holder.{Holder}
use Rattle.smr_core.specs.declared.holder.Phase.TheVariants as phase
use Rattle.smr_core.specs.declared.holder.Task.TheVariants as task
use Rattle.smr_core.specs.ClockState.{IsInRange, place_after_seats, write_place, read_place, seat_place, presence_place, opening_words, seats_of, first_holder}
use Rattle.smr_core.specs.ClockStep as clock
use Rattle.smr_core.specs.ClockStep.{same, stored, exchanged, without, with_seat}
use Rattle.smr_core.specs.ClockLaw.{ClockLaw, HasNoHolder, Later, Keeps, KeepsSplit, KeepsJoin}

-- A clock begins with both sequences at the start, every seat's word 0, all seats present and one holder, which is no worker. Behind its words there may be others.
abbrev pub BeginsLawful : Type 0
BeginsLawful =
    (a : ClockConfig) (more : List ℕ) → IsInRange a → ClockLaw a (opening_words a ++ more) (first_holder a ∷ [])

-- a word behind the clock's own may change as it likes
abbrev pub OtherWordKeeps : Type 0
OtherWordKeeps =
    (a : ClockConfig) (i v : ℕ) (ws : List ℕ) (hs : List Holder) → place_after_seats a ≤ i → ClockLaw a ws hs → Later a ws (slice_set ws i v) hs

-- ---- any holder may load a hand alone

abbrev pub WriteLookKeeps : Type 0
WriteLookKeeps = (a : ClockConfig) (id : ℕ) (h : Holder) → Keeps a id h write_place same (clock.write_loaded a h)

abbrev pub ReadLookKeeps : Type 0
ReadLookKeeps = (a : ClockConfig) (id : ℕ) (h : Holder) → Keeps a id h read_place same (clock.read_loaded h)

-- ---- enter and exit

abbrev pub EnterLoadKeeps : Type 0
EnterLoadKeeps = (a : ClockConfig) (id : ℕ) (h : Holder) → h.phase ≡ phase.Outside → Keeps a id h write_place same (clock.enter_loaded a h)

abbrev pub EnterStoreKeeps : Type 0
EnterStoreKeeps =
    (a : ClockConfig) (id : ℕ) (h : Holder) (s : ℕ) → h.seat ≡ Some s → h.phase ≡ phase.Loaded
    → Keeps a id h (seat_place s) (stored (clock.entry_word h)) (λ found. clock.enter_stored h)

abbrev pub EnterCheckKeeps : Type 0
EnterCheckKeeps = (a : ClockConfig) (id : ℕ) (h : Holder) → h.phase ≡ phase.Stored → Keeps a id h write_place same (clock.enter_checked a h)

abbrev pub ClearKeeps : Type 0
ClearKeeps =
    (a : ClockConfig) (id : ℕ) (h : Holder) (s : ℕ) → h.seat ≡ Some s → (h.phase ≡ phase.Inside) ⊎ (h.phase ≡ phase.Late)
    → Keeps a id h (seat_place s) (stored 0) (λ found. clock.cleared h)

-- ---- leave and come

-- A worker leaves outside a section, and in no advance or poll.
abbrev pub LeaveKeeps : Type 0
LeaveKeeps =
    (a : ClockConfig) (id : ℕ) (h : Holder) (s : ℕ) → h.seat ≡ Some s → h.phase ≡ phase.Outside → h.task ≡ task.Idle
    → Keeps a id h (presence_place a) (without s) (λ found. clock.left h)

abbrev pub ComeKeeps : Type 0
ComeKeeps =
    (a : ClockConfig) (id : ℕ) (h : Holder) (s : ℕ) → h.seat ≡ Some s → h.phase ≡ phase.Vacant
    → Keeps a id h (presence_place a) (with_seat s) (λ found. clock.came h)

-- ---- advance

abbrev pub AdvanceReadKeeps : Type 0
AdvanceReadKeeps = (a : ClockConfig) (id : ℕ) (h : Holder) → IsSome h.seat → h.phase ≢ phase.Vacant → Keeps a id h read_place same (clock.advance_read h)

abbrev pub AdvanceLoadKeeps : Type 0
AdvanceLoadKeeps = (a : ClockConfig) (id : ℕ) (h : Holder) → h.task ≡ task.AdvRead → Keeps a id h write_place same (clock.advance_loaded a h)

abbrev pub AdvanceSwapKeeps : Type 0
AdvanceSwapKeeps =
    (a : ClockConfig) (id : ℕ) (h : Holder) → h.task ≡ task.AdvLoaded → Keeps a id h write_place (exchanged h.write (clock.goal_of h)) (clock.advance_swapped h)

-- ---- poll

abbrev pub PollReadKeeps : Type 0
PollReadKeeps = (a : ClockConfig) (id : ℕ) (h : Holder) → h.phase ≢ phase.Vacant → Keeps a id h read_place same (clock.poll_read h)

abbrev pub PollLoadKeeps : Type 0
PollLoadKeeps = (a : ClockConfig) (id : ℕ) (h : Holder) → h.task ≡ task.PollRead → Keeps a id h write_place same (clock.poll_loaded a h)

abbrev pub PollEndKeeps : Type 0
PollEndKeeps = (a : ClockConfig) (id : ℕ) (h : Holder) → Keeps a id h write_place same (clock.poll_ended a h)

abbrev pub PollPresentKeeps : Type 0
PollPresentKeeps = (a : ClockConfig) (id : ℕ) (h : Holder) → h.task ≡ task.PollLoaded → Keeps a id h (presence_place a) same (clock.poll_present a h)

abbrev pub PollScanKeeps : Type 0
PollScanKeeps =
    (a : ClockConfig) (id : ℕ) (h : Holder) → h.task ≡ task.Scanning → h.scanned < a.seats → Keeps a id h (seat_place h.scanned) same (clock.poll_scanned a h)

abbrev pub PollSwapKeeps : Type 0
PollSwapKeeps =
    (a : ClockConfig) (id : ℕ) (h : Holder) → h.task ≡ task.Scanning → h.scanned ≡ a.seats
    → Keeps a id h read_place (exchanged h.read h.least) (clock.poll_swapped h)

-- ---- notes, workers split off, and joins

abbrev pub NoteKeeps : Type 0
NoteKeeps = (a : ClockConfig) (id : ℕ) (h : Holder) → KeepsSplit a id h (clock.note_of h)

-- the worker of a seat that has no holder yet
abbrev pub WorkerKeeps : Type 0
WorkerKeeps =
    (a : ClockConfig) (id s : ℕ) (h : Holder) (ws : List ℕ) (hs : List Holder) → ClockLaw a ws hs → get_elem? hs id ≡ some h
    → s < a.seats → HasNoHolder (seats_of hs) s → Later a ws ws (hs ++ clock.worker_of s h ∷ [])

-- The holder that is taken in has no seat. It may be in a poll, which nobody goes on with.
abbrev pub JoinKeeps : Type 0
JoinKeeps =
    (a : ClockConfig) (id : ℕ) (h : Holder) (at : ℕ) (other : Holder) → (at ≡ id → ⊥) → other.phase ≡ phase.Note → KeepsJoin a id h at other (clock.joined h other)

-- ---- all of these

-- the law holds where a clock begins, and each kind of step keeps it
pub record StepsKeepTheLaw : Type 0 where
  pub begins : BeginsLawful
  pub other_word : OtherWordKeeps
  pub write_look : WriteLookKeeps
  pub read_look : ReadLookKeeps
  pub enter_load : EnterLoadKeeps
  pub enter_store : EnterStoreKeeps
  pub enter_check : EnterCheckKeeps
  pub clear : ClearKeeps
  pub leave : LeaveKeeps
  pub come : ComeKeeps
  pub advance_read : AdvanceReadKeeps
  pub advance_load : AdvanceLoadKeeps
  pub advance_swap : AdvanceSwapKeeps
  pub poll_read : PollReadKeeps
  pub poll_load : PollLoadKeeps
  pub poll_end : PollEndKeeps
  pub poll_present : PollPresentKeeps
  pub poll_scan : PollScanKeeps
  pub poll_swap : PollSwapKeeps
  pub note : NoteKeeps
  pub worker : WorkerKeeps
  pub join : JoinKeeps
