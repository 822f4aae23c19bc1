-- The steps of the core, each with what it needs, does and sees, and its refusals.
use Rattle.std.specs.Prelude.{◌≡◌, ◌≢◌, ℕ, ◌<◌, ◌≤◌, ◌⊎◌, ◌==◌, List, [], ◌∷◌, ◌++◌, length, slice_index, slice_get, slice_set, take, Option, Some, None, IsSome, if◌then◌else◌, nat_le, Result, IfOk, IfErr, OnOk, OnErr}
use Rattle.smr_seq.specs.Reading.{reading}
use Rattle.smr_core.specs.declared.clock_core.ClockConfig.{ClockConfig}
use Rattle.smr_core.specs.declared.steps.Actor.{Actor}
use Rattle.smr_core.specs.declared.holder.Holder.{Holder}
use Rattle.smr_core.specs.declared.holder.Phase.TheVariants as phase
use Rattle.smr_core.specs.declared.holder.Task.TheVariants as task
use Rattle.smr_core.specs.declared.turns.Step.{Step}
use Rattle.smr_core.specs.declared.turns.Step.TheVariants.{EnterLoad, EnterStore, EnterCheck, Clear, Leave, Come, AdvanceRead, AdvanceLoad, AdvanceSwap, PollRead, PollLoad, PollPresent, PollScan, PollSwap, Note, Absorb}
use Rattle.smr_core.specs.declared.turns.Seen.{Seen}
use Rattle.smr_core.specs.declared.turns.Seen.TheVariants as seen
use Rattle.smr_core.specs.declared.turns.StepRefused.{StepRefused}
use Rattle.smr_core.specs.declared.turns.StepRefused.TheVariants.{NoSeat, OutOfTurn, Crowded, Memory}
use Rattle.smr_core.specs.ClockState.{write_place, read_place, seat_place, presence_place, spent}
use Rattle.smr_core.specs.ClockStep as clock
use Rattle.smr_core.specs.CoreState.{State, IsActor, most_holders}

-- the number of the holder that takes the step
abbrev pub taker : Step → ℕ
taker (EnterLoad s) = s
taker (EnterStore s) = s
taker (EnterCheck s) = s
taker (Clear s) = s
taker (Leave s) = s
taker (Come s) = s
taker (AdvanceRead s) = s
taker (AdvanceLoad s) = s
taker (AdvanceSwap s) = s
taker (PollRead s tag) = s
taker (PollLoad s) = s
taker (PollPresent s) = s
taker (PollScan s) = s
taker (PollSwap s) = s
taker (Note s) = s
taker (Absorb s note) = s

-- a worker is a holder with a seat that isn't vacant
abbrev pub IsWorker : Holder → Type 0
IsWorker h = IsSome h.seat × (h.phase ≢ phase.Vacant)

abbrev pub IsIdleWorker : Holder → Type 0
IsIdleWorker h = IsWorker h × (h.task ≡ task.Idle)

-- a worker leaves outside a section, and in no advance or poll
abbrev pub MayLeave : Holder → Type 0
MayLeave h = (h.phase ≡ phase.Outside) × (h.task ≡ task.Idle)

abbrev pub IsIdleNote : Holder → Type 0
IsIdleNote h = (h.phase ≡ phase.Note) × (h.task ≡ task.Idle)

-- a poll is for a worker or a note
abbrev pub MayPoll : Holder → Type 0
MayPoll h = (IsWorker h ⊎ (h.phase ≡ phase.Note)) × (h.task ≡ task.Idle)

-- what a step needs of the holder that takes it
abbrev pub Needs : ClockConfig → Step → Holder → Type 0
Needs a (EnterLoad s) h = h.phase ≡ phase.Outside
Needs a (EnterStore s) h = h.phase ≡ phase.Loaded
Needs a (EnterCheck s) h = h.phase ≡ phase.Stored
Needs a (Clear s) h = (h.phase ≡ phase.Inside) ⊎ (h.phase ≡ phase.Late)
Needs a (Leave s) h = MayLeave h
Needs a (Come s) h = h.phase ≡ phase.Vacant
Needs a (AdvanceRead s) h = IsIdleWorker h
Needs a (AdvanceLoad s) h = h.task ≡ task.AdvRead
Needs a (AdvanceSwap s) h = h.task ≡ task.AdvLoaded
Needs a (PollRead s tag) h = MayPoll h
Needs a (PollLoad s) h = h.task ≡ task.PollRead
Needs a (PollPresent s) h = h.task ≡ task.PollLoaded
Needs a (PollScan s) h = (h.task ≡ task.Scanning) × (h.scanned < a.seats)
Needs a (PollSwap s) h = (h.task ≡ task.Scanning) × (h.scanned ≡ a.seats)
Needs a (Note s) h = IsIdleWorker h
Needs a (Absorb s note) h = IsIdleWorker h

-- ---- what a step does and sees

-- The actor n takes a step: the word i becomes f of what is found there, the actor becomes g of that, and it sees sees of that.
pub record Moves (s : State) (step : Step) (i : Holder → ℕ) (f : Holder → ℕ → ℕ) (g : Actor → ℕ → Actor) (sees : Actor → ℕ → Seen) (saw : Seen) (s' : State) : Type 0 where
  pub actor : Actor
  pub there : IsActor s (taker step) actor
  pub needs : Needs s.config step actor.holder
  pub saw_it : saw ≡ sees actor (slice_index s.words (i actor.holder))
  pub after :
      s' ≡ record {
        config = s.config;
        words = slice_set s.words (i actor.holder) (f actor.holder (slice_index s.words (i actor.holder)));
        actors = slice_set s.actors (taker step) (g actor (slice_index s.words (i actor.holder)));
      }

-- a new holder, the next one: the worker loads the write sequence, and the note is split off
pub record MakesNote (s : State) (step : Step) (saw : Seen) (s' : State) : Type 0 where
  pub actor : Actor
  pub there : IsActor s (taker step) actor
  pub needs : Needs s.config step actor.holder
  pub room : length s.actors < most_holders
  pub saw_it : saw ≡ seen.Holder (length s.actors)
  pub after :
      let worker = clock.write_loaded s.config actor.holder (slice_index s.words write_place) in
      s' ≡ record {
        config = s.config;
        words = s.words;
        actors = slice_set s.actors (taker step) (record actor { holder = worker }) ++ record { holder = clock.note_of worker; tag = 0; reading = 0 } ∷ [];
      }

-- the worker takes in the note, which is spent
pub record TakesIn (s : State) (step : Step) (other : ℕ) (saw : Seen) (s' : State) : Type 0 where
  pub actor : Actor
  pub there : IsActor s (taker step) actor
  pub needs : Needs s.config step actor.holder
  pub note : Actor
  pub note_there : IsActor s other note
  pub note_needs : IsIdleNote note.holder
  pub saw_it : saw ≡ seen.Done
  pub after :
      s' ≡ record {
        config = s.config;
        words = s.words;
        actors = slice_set (slice_set s.actors (taker step) (record actor { holder = clock.joined actor.holder note.holder })) other (record note { holder = spent });
      }

-- what an enter's third step sees
abbrev pub check_sees : ClockConfig → Holder → ℕ → Seen
check_sees a h found = if clock.is_overtaken a h.loaded found then seen.Late h.loaded found else seen.Inside h.loaded found

-- what an advance's second load sees
abbrev pub load_sees : ClockConfig → Holder → ℕ → Seen
load_sees a h found =
    if clock.is_spent found then seen.Spent found else
    if clock.is_too_far a h.read found then seen.TooFar h.read found else
    seen.Hand found

-- A poll that has the write sequence goes on only where its tag has a reading near it, which is above the read sequence.
abbrev pub poll_goes_on : ClockConfig → Actor → ℕ → Option ℕ → Actor
poll_goes_on a x found None = record x { holder = clock.poll_ended a x.holder found }
poll_goes_on a x found (Some goal) =
    if nat_le goal x.holder.read then record x { holder = clock.poll_ended a x.holder found } else
    record x { holder = clock.poll_loaded a x.holder found; reading = goal }

abbrev pub poll_sees : Actor → ℕ → Option ℕ → Seen
poll_sees x found None = seen.Yes x.holder.read
poll_sees x found (Some goal) = if nat_le goal x.holder.read then seen.Yes x.holder.read else seen.Hand found

-- what a poll's exchange sees: yes exactly where the reading is at most the read sequence last found
abbrev pub swap_sees : Actor → ℕ → Seen
swap_sees x found =
    let last = clock.last_found x.holder found in
    if nat_le x.reading last then seen.Yes last else seen.No last

-- From s the step saw this and led to s'.
abbrev pub IsStep : State → Step → Seen → State → Type 0
IsStep s (EnterLoad n) =
    Moves s (EnterLoad n) (λ h. write_place) (λ h. clock.same) (λ x found. record x { holder = clock.enter_loaded s.config x.holder found }) (λ x found. seen.Hand found)
IsStep s (EnterStore n) =
    Moves s (EnterStore n) (λ h. seat_place n) (λ h. clock.stored (clock.entry_word h)) (λ x found. record x { holder = clock.enter_stored x.holder }) (λ x found. seen.Done)
IsStep s (EnterCheck n) =
    Moves s (EnterCheck n) (λ h. write_place) (λ h. clock.same) (λ x found. record x { holder = clock.enter_checked s.config x.holder found })
    (λ x found. check_sees s.config x.holder found)
IsStep s (Clear n) =
    Moves s (Clear n) (λ h. seat_place n) (λ h. clock.stored 0) (λ x found. record x { holder = clock.cleared x.holder }) (λ x found. seen.Done)
IsStep s (Leave n) =
    Moves s (Leave n) (λ h. presence_place s.config) (λ h. clock.without n) (λ x found. record x { holder = clock.left x.holder }) (λ x found. seen.Done)
IsStep s (Come n) =
    Moves s (Come n) (λ h. presence_place s.config) (λ h. clock.with_seat n) (λ x found. record x { holder = clock.came x.holder }) (λ x found. seen.Done)
IsStep s (AdvanceRead n) =
    Moves s (AdvanceRead n) (λ h. read_place) (λ h. clock.same) (λ x found. record x { holder = clock.advance_read x.holder found }) (λ x found. seen.Hand found)
IsStep s (AdvanceLoad n) =
    Moves s (AdvanceLoad n) (λ h. write_place) (λ h. clock.same) (λ x found. record x { holder = clock.advance_loaded s.config x.holder found })
    (λ x found. load_sees s.config x.holder found)
IsStep s (AdvanceSwap n) =
    Moves s (AdvanceSwap n) (λ h. write_place) (λ h. clock.exchanged h.write (clock.goal_of h)) (λ x found. record x { holder = clock.advance_swapped x.holder found })
    (λ x found. seen.Goal (clock.goal_of x.holder) (found == x.holder.write))
IsStep s (PollRead n tag) =
    Moves s (PollRead n tag) (λ h. read_place) (λ h. clock.same) (λ x found. record x { holder = clock.poll_read x.holder found; tag = tag }) (λ x found. seen.Hand found)
IsStep s (PollLoad n) =
    Moves s (PollLoad n) (λ h. write_place) (λ h. clock.same) (λ x found. poll_goes_on s.config x found (reading x.tag found)) (λ x found. poll_sees x found (reading x.tag found))
IsStep s (PollPresent n) =
    Moves s (PollPresent n) (λ h. presence_place s.config) (λ h. clock.same) (λ x found. record x { holder = clock.poll_present s.config x.holder found }) (λ x found. seen.Present found)
IsStep s (PollScan n) =
    Moves s (PollScan n) (λ h. seat_place h.scanned) (λ h. clock.same) (λ x found. record x { holder = clock.poll_scanned s.config x.holder found })
    (λ x found. seen.Word x.holder.scanned found (clock.least_after x.holder.read x.holder.write x.holder.least found))
IsStep s (PollSwap n) =
    Moves s (PollSwap n) (λ h. read_place) (λ h. clock.exchanged h.read h.least) (λ x found. record x { holder = clock.poll_swapped x.holder found }) swap_sees
IsStep s (Note n) = MakesNote s (Note n)
IsStep s (Absorb n note) = TakesIn s (Absorb n note) note

-- ---- refusals, in the order of their tests

-- the first number of the step that no holder has
abbrev pub IsMissing : State → Step → ℕ → Type 0
IsMissing s (Absorb n note) missing = ((missing ≡ n) × (length s.actors ≤ n)) ⊎ ((missing ≡ note) × (n < length s.actors) × (length s.actors ≤ note))
IsMissing s step missing = (missing ≡ taker step) × (length s.actors ≤ missing)

-- all numbers are there, and this holder is the first whose phase and task the step does not suit
abbrev pub IsOutOfTurn : State → Step → ℕ → Holder → Type 0
IsOutOfTurn s (Absorb n note) at h =
    ((at ≡ n) × (note < length s.actors) × ¬ Needs s.config (Absorb n note) h)
    ⊎ ((at ≡ note) × ((worker : Actor) × IsActor s n worker × Needs s.config (Absorb n note) worker.holder) × ¬ IsIdleNote h)
IsOutOfTurn s step at h = (at ≡ taker step) × ¬ Needs s.config step h

-- the step is a note that the holder may make
abbrev pub MayMakeNote : State → Step → Type 0
MayMakeNote s (Note n) = (worker : Actor) × IsActor s n worker × Needs s.config (Note n) worker.holder
MayMakeNote s step = ⊥

-- From s the step is refused so. Want of memory may come at a note alone, in place of its step.
abbrev pub StepIsRefused : State → Step → StepRefused → Type 0
StepIsRefused s step (NoSeat missing count) = IsMissing s step missing × (count ≡ length s.actors)
StepIsRefused s step (OutOfTurn at in_phase in_task) =
    (actor : Actor) × IsActor s at actor × IsOutOfTurn s step at actor.holder × (in_phase ≡ actor.holder.phase) × (in_task ≡ actor.holder.task)
StepIsRefused s step (Crowded count) = MayMakeNote s step × (count ≡ most_holders) × (length s.actors ≡ most_holders)
StepIsRefused s step Memory = MayMakeNote s step × (length s.actors < most_holders)

-- ---- runs

-- the steps one after another, with what each saw
abbrev pub Run : State → List Step → List Seen → State → Type 0
Run s [] [] s' = s' ≡ s
Run s (step ∷ steps) (saw ∷ rest) s' = (mid : State) × IsStep s step saw mid × Run mid steps rest s'
Run s [] (saw ∷ rest) s' = ⊥
Run s (step ∷ steps) [] s' = ⊥

-- A run of these steps stopped at the step n, which was refused so, in the state s': the steps before it were taken, and the core stands as after them.
-- Want of memory at 0 may also be that of the list of what they see, which is taken before any step.
pub record StopsAt (s : State) (steps : List Step) (n : ℕ) (refused : StepRefused) (s' : State) : Type 0 where
  pub sees : List Seen
  pub run : Run s (take n steps) sees s'
  pub cause : ((step : Step) × (slice_get steps n ≡ Some step) × StepIsRefused s' step refused) ⊎ ((n ≡ 0) × (refused ≡ Memory))

-- ---- what calls answer

-- the actor of a number, or there is none of it
pub record FindsActor (s : State) (number : ℕ) (answer : Result Actor StepRefused) : Type 0 where
  pub there : IfOk answer (λ actor. IsActor s number actor)
  pub within : OnOk answer (number < length s.actors)
  pub missing : IfErr answer (λ why. (why ≡ NoSeat number (length s.actors)) × (length s.actors ≤ number))

-- The step saw this and led to this state, or it is refused so, and the state is as it was.
pub record TakesStep (s : State) (step : Step) (answer : Result Seen StepRefused) (s' : State) : Type 0 where
  pub stepped : IfOk answer (λ saw. IsStep s step saw s')
  pub refused : IfErr answer (λ why. StepIsRefused s step why)
  pub unchanged : OnErr answer (s' ≡ s)
