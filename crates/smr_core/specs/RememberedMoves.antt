-- That each kind of step keeps the law of what views remember, from every state in which that law and the clock's hold, and that it holds where a clock begins.
use Rattle.std.specs.Prelude.{◌≡◌, ℕ, ◌<◌, List, [], ◌∷◌, ◌++◌, map, slice_index, slice_set}
use mathlib.Core.Option.{some}
use lib.ListN.{get_elem?}
use Rattle.smr_core.specs.declared.clock_core.ClockConfig.{ClockConfig}
use Rattle.smr_core.specs.declared.holder.Holder.{Holder}
use Rattle.smr_core.specs.declared.holder.Phase.TheVariants as phase
use Rattle.smr_core.specs.declared.holder.Task.TheVariants as task
use Rattle.smr_core.specs.ClockState.{write_place, read_place, seat_place, presence_place, spent, first_holder}
use Rattle.smr_core.specs.ClockStep as clock
use Rattle.smr_core.specs.ClockLaw.{ClockLaw}
use Rattle.smr_core.specs.Remembered.{View, RememberedLaw, nothing_remembered, stored_too, none_found, found_too, poll_done}

-- the holders of the views, in their order
abbrev pub holders_in : List View → List Holder
holders_in vs = map (λ v. v.0) vs

-- From every state in which both laws hold and the view id is v: it becomes `next` of what is found in the word i. What the step does to that word is of no account here.
abbrev pub KeepsMemory : ClockConfig → ℕ → View → ℕ → (ℕ → View) → Type 0
KeepsMemory a id v i next =
    (ws : List ℕ) (vs : List View) → ClockLaw a ws (holders_in vs) → RememberedLaw a vs → get_elem? vs id ≡ some v
    → RememberedLaw a (slice_set vs id (next (slice_index ws i)))

-- there is one view more
abbrev pub KeepsMemorySplit : ClockConfig → ℕ → View → View → Type 0
KeepsMemorySplit a id v new =
    (ws : List ℕ) (vs : List View) → ClockLaw a ws (holders_in vs) → RememberedLaw a vs → get_elem? vs id ≡ some v → RememberedLaw a (vs ++ new ∷ [])

-- the view id becomes both, and the other is spent
abbrev pub KeepsMemoryJoin : ClockConfig → ℕ → View → ℕ → View → View → Type 0
KeepsMemoryJoin a id v at other both =
    (ws : List ℕ) (vs : List View) → ClockLaw a ws (holders_in vs) → RememberedLaw a vs → get_elem? vs id ≡ some v → get_elem? vs at ≡ some other
    → RememberedLaw a (slice_set (slice_set vs id both) at (spent, nothing_remembered))

-- a clock begins with one view, which remembers nothing
abbrev pub BeginsRemembering : Type 0
BeginsRemembering = (a : ClockConfig) → RememberedLaw a ((first_holder a, nothing_remembered) ∷ [])

-- ---- any holder may load a hand alone

abbrev pub WriteLookRemembers : Type 0
WriteLookRemembers = (a : ClockConfig) (id : ℕ) (v : View) → KeepsMemory a id v write_place (λ found. (clock.write_loaded a v.0 found, v.1))

abbrev pub ReadLookRemembers : Type 0
ReadLookRemembers = (a : ClockConfig) (id : ℕ) (v : View) → KeepsMemory a id v read_place (λ found. (clock.read_loaded v.0 found, v.1))

-- ---- enter and exit

abbrev pub EnterLoadRemembers : Type 0
EnterLoadRemembers = (a : ClockConfig) (id : ℕ) (v : View) → KeepsMemory a id v write_place (λ found. (clock.enter_loaded a v.0 found, v.1))

-- the write sequence whose low half is stored is remembered
abbrev pub EnterStoreRemembers : Type 0
EnterStoreRemembers =
    (a : ClockConfig) (id s : ℕ) (v : View) → v.0.phase ≡ phase.Loaded → KeepsMemory a id v (seat_place s) (λ found. (clock.enter_stored v.0, stored_too v.1 v.0))

abbrev pub EnterCheckRemembers : Type 0
EnterCheckRemembers = (a : ClockConfig) (id : ℕ) (v : View) → v.0.phase ≡ phase.Stored → KeepsMemory a id v write_place (λ found. (clock.enter_checked a v.0 found, v.1))

abbrev pub ClearRemembers : Type 0
ClearRemembers = (a : ClockConfig) (id s : ℕ) (v : View) → KeepsMemory a id v (seat_place s) (λ found. (clock.cleared v.0, v.1))

-- ---- leave and come

abbrev pub LeaveRemembers : Type 0
LeaveRemembers = (a : ClockConfig) (id : ℕ) (v : View) → KeepsMemory a id v (presence_place a) (λ found. (clock.left v.0, v.1))

abbrev pub ComeRemembers : Type 0
ComeRemembers = (a : ClockConfig) (id : ℕ) (v : View) → KeepsMemory a id v (presence_place a) (λ found. (clock.came v.0, v.1))

-- ---- advance

abbrev pub AdvanceReadRemembers : Type 0
AdvanceReadRemembers = (a : ClockConfig) (id : ℕ) (v : View) → KeepsMemory a id v read_place (λ found. (clock.advance_read v.0 found, v.1))

abbrev pub AdvanceLoadRemembers : Type 0
AdvanceLoadRemembers = (a : ClockConfig) (id : ℕ) (v : View) → KeepsMemory a id v write_place (λ found. (clock.advance_loaded a v.0 found, v.1))

abbrev pub AdvanceSwapRemembers : Type 0
AdvanceSwapRemembers = (a : ClockConfig) (id : ℕ) (v : View) → KeepsMemory a id v write_place (λ found. (clock.advance_swapped v.0 found, v.1))

-- ---- poll

abbrev pub PollReadRemembers : Type 0
PollReadRemembers = (a : ClockConfig) (id : ℕ) (v : View) → KeepsMemory a id v read_place (λ found. (clock.poll_read v.0 found, v.1))

abbrev pub PollLoadRemembers : Type 0
PollLoadRemembers = (a : ClockConfig) (id : ℕ) (v : View) → KeepsMemory a id v write_place (λ found. (clock.poll_loaded a v.0 found, v.1))

-- no word of this poll is found yet
abbrev pub PollPresentRemembers : Type 0
PollPresentRemembers = (a : ClockConfig) (id : ℕ) (v : View) → KeepsMemory a id v (presence_place a) (λ found. (clock.poll_present a v.0 found, none_found v.1))

-- the word found is 0, or the low half of a write sequence that the worker of its seat remembers
abbrev pub PollScanRemembers : Type 0
PollScanRemembers =
    (a : ClockConfig) (id : ℕ) (v : View) → v.0.task ≡ task.Scanning → v.0.scanned < a.seats
    → KeepsMemory a id v (seat_place v.0.scanned) (λ found. (clock.poll_scanned a v.0 found, found_too v.1 v.0 found))

-- the poll is remembered
abbrev pub PollSwapRemembers : Type 0
PollSwapRemembers =
    (a : ClockConfig) (id : ℕ) (v : View) → v.0.task ≡ task.Scanning → v.0.scanned ≡ a.seats
    → KeepsMemory a id v read_place (λ found. (clock.poll_swapped v.0 found, poll_done v.1 v.0 found))

-- ---- notes, workers split off, and joins

abbrev pub NoteRemembers : Type 0
NoteRemembers = (a : ClockConfig) (id : ℕ) (v : View) → KeepsMemorySplit a id v (clock.note_of v.0, nothing_remembered)

abbrev pub WorkerRemembers : Type 0
WorkerRemembers = (a : ClockConfig) (id s : ℕ) (v : View) → KeepsMemorySplit a id v (clock.worker_of s v.0, nothing_remembered)

-- what the note that is taken in remembers is forgotten
abbrev pub JoinRemembers : Type 0
JoinRemembers =
    (a : ClockConfig) (id : ℕ) (v : View) (at : ℕ) (other : View) → (at ≡ id → ⊥) → other.0.phase ≡ phase.Note
    → KeepsMemoryJoin a id v at other (clock.joined v.0 other.0, v.1)

-- ---- all of these

-- what views remember is so where a clock begins, and each kind of step keeps it so
pub record StepsKeepWhatIsRemembered : Type 0 where
  pub begins : BeginsRemembering
  pub write_look : WriteLookRemembers
  pub read_look : ReadLookRemembers
  pub enter_load : EnterLoadRemembers
  pub enter_store : EnterStoreRemembers
  pub enter_check : EnterCheckRemembers
  pub clear : ClearRemembers
  pub leave : LeaveRemembers
  pub come : ComeRemembers
  pub advance_read : AdvanceReadRemembers
  pub advance_load : AdvanceLoadRemembers
  pub advance_swap : AdvanceSwapRemembers
  pub poll_read : PollReadRemembers
  pub poll_load : PollLoadRemembers
  pub poll_present : PollPresentRemembers
  pub poll_scan : PollScanRemembers
  pub poll_swap : PollSwapRemembers
  pub note : NoteRemembers
  pub worker : WorkerRemembers
  pub join : JoinRemembers
