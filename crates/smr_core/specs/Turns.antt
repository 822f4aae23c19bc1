-- Turns: a step, or a whole operation, which is several steps until it ends (own). How many they are depends on what they see.
use Rattle.std.specs.Prelude.{◌≡◌, ◌≤◌, ℕ, ◌+◌, List, [], ◌∷◌, ◌++◌, map, slice_get, Bool, true, false, if◌then◌else◌, Result, IfOk, IfErr, OnErr, Vec, vec_len}
use Rattle.std.specs.declared.alloc.Global.{Global}
use Rattle.std.specs.Option.{option_map_or}
use Rattle.std.specs.Vec.{vec_capacity}
use Rattle.smr_core.specs.declared.clock_core.ClockConfig.{ClockConfig}
use Rattle.smr_core.specs.declared.steps.Actor.{Actor}
use Rattle.smr_core.specs.declared.holder.Task.TheVariants as task
use Rattle.smr_core.specs.declared.turns.Step.{Step}
use Rattle.smr_core.specs.declared.turns.Step.TheVariants.{EnterLoad, EnterStore, EnterCheck, Clear, AdvanceRead, AdvanceLoad, AdvanceSwap, PollRead, PollLoad, PollPresent, PollScan, PollSwap}
use Rattle.smr_core.specs.declared.turns.Seen.{Seen}
use Rattle.smr_core.specs.declared.turns.Seen.TheVariants as seen
use Rattle.smr_core.specs.declared.turns.StepRefused.{StepRefused}
use Rattle.smr_core.specs.declared.turns.StepRefused.TheVariants.{Memory}
use Rattle.smr_core.specs.declared.turns.Turn.{Turn}
use Rattle.smr_core.specs.declared.turns.Turn.TheVariants.{One, Enter, Advance, PollLoads, Poll}
use Rattle.smr_core.specs.ClockState.{seats_below}
use Rattle.smr_core.specs.CoreState.{State, IsActor, CoreLaw}
use Rattle.smr_core.specs.CoreStep.{StepIsRefused, Run}

-- the check of an enter saw that it is late
abbrev pub is_late : Seen → Bool
is_late (seen.Late loaded found) = true
is_late saw = false

-- a load saw a hand, so the operation goes on
abbrev pub is_hand : Seen → Bool
is_hand (seen.Hand value) = true
is_hand saw = false

-- the set of seats that the load of the presence word saw, and none where it is no such load
abbrev pub set_in : Seen → ℕ
set_in (seen.Present seats) = seats
set_in saw = 0

-- what the step of this place in its operation saw, from 0, passes
abbrev pub saw_at : ℕ → (Seen → Bool) → List Seen → Bool
saw_at n passes sees = option_map_or passes (slice_get sees n) false

abbrev pub set_at : ℕ → List Seen → ℕ
set_at n sees = option_map_or set_in (slice_get sees n) 0

-- The steps of a turn, where they see this: an enter clears its word where its third step finds it late, an advance exchanges only where its second step saw a hand,
-- and a poll goes on only where its second step saw a hand: it loads the presence word, scans the word of each seat that is in it, and exchanges.
abbrev pub turn_steps : ClockConfig → Turn → List Seen → List Step
turn_steps a (One step) sees = step ∷ []
turn_steps a (Enter n) sees = EnterLoad n ∷ EnterStore n ∷ EnterCheck n ∷ (if saw_at 2 is_late sees then Clear n ∷ [] else [])
turn_steps a (Advance n) sees = AdvanceRead n ∷ AdvanceLoad n ∷ (if saw_at 1 is_hand sees then AdvanceSwap n ∷ [] else [])
turn_steps a (PollLoads n) sees = PollLoad n ∷ (if saw_at 0 is_hand sees then PollPresent n ∷ [] else [])
turn_steps a (Poll n tag) sees =
    PollRead n tag ∷ PollLoad n
    ∷ (if saw_at 1 is_hand sees then PollPresent n ∷ (map (λ seat. PollScan n) (seats_below (set_at 2 sees) a.seats) ++ PollSwap n ∷ []) else [])

-- From s the turn saw this, step by step, and led to s'.
abbrev pub IsTurn : State → Turn → List Seen → State → Type 0
IsTurn s turn sees s' = Run s (turn_steps s.config turn sees) sees s'

-- the turns one after another, with what the steps of each saw
abbrev pub TurnRun : State → List Turn → List (List Seen) → State → Type 0
TurnRun s [] [] s' = s' ≡ s
TurnRun s (turn ∷ turns) (sees ∷ rest) s' = (mid : State) × IsTurn s turn sees mid × TurnRun mid turns rest s'
TurnRun s [] (sees ∷ rest) s' = ⊥
TurnRun s (turn ∷ turns) [] s' = ⊥

-- the step with which a turn begins
abbrev pub first_step : Turn → Step
first_step (One step) = step
first_step (Enter n) = EnterLoad n
first_step (Advance n) = AdvanceRead n
first_step (PollLoads n) = PollLoad n
first_step (Poll n tag) = PollRead n tag

-- From s the turn is refused so: as its first step is. Want of memory may be that of the list of what its steps see, which is taken before any step.
abbrev pub RefusesTurn : State → Turn → StepRefused → Type 0
RefusesTurn s turn Memory = Unit {0}
RefusesTurn s turn refused = StepIsRefused s (first_step turn) refused

-- at most so many steps
abbrev pub most_steps : ClockConfig → Turn → ℕ
most_steps a (One step) = 1
most_steps a (Enter n) = 4
most_steps a (Advance n) = 3
most_steps a (PollLoads n) = 2
most_steps a (Poll n tag) = a.seats + 4

-- ---- how the steps of an operation follow one another; no public clause cites these

-- from s the step isn't refused
abbrev pub IsSure : State → Step → Type 0
IsSure s step = (refused : StepRefused) → StepIsRefused s step refused → ⊥

-- the holder n is in a poll of this set of seats, whose next step loads the word of the seat k, or exchanges where that is the count of seats
pub record Scans (s : State) (n set k : ℕ) : Type 0 where
  pub actor : Actor
  pub there : IsActor s n actor
  pub scanning : actor.holder.task ≡ task.Scanning
  pub of_set : actor.holder.present ≡ set
  pub scanned : actor.holder.scanned ≡ k

-- what the steps of a turn see has room here, and nothing is in it yet
pub record IsRoomFor (a : ClockConfig) (turn : Turn) (sees : Vec Seen Global) : Type 0 where
  pub empty : sees.items ≡ []
  pub len : vec_len sees ≡ 0
  pub room : most_steps a turn ≤ vec_capacity sees

-- ---- what a call answers that takes a turn

-- The turn saw this and led to this state, or it is refused so, and the state is as it was. The law holds after it.
pub record TakesTurn (s : State) (turn : Turn) (answer : Result (List Seen) StepRefused) (s' : State) : Type 0 where
  pub taken : IfOk answer (λ sees. IsTurn s turn sees s')
  pub refused : IfErr answer (λ why. RefusesTurn s turn why)
  pub unchanged : OnErr answer (s' ≡ s)
  pub law : CoreLaw s'
