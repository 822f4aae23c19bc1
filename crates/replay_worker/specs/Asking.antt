-- What a worker's turn tells its gate, by the gate's own meaning of a visit (own).
use Rattle.std.specs.Prelude.{◌≡◌, ◌<◌, ◌≤◌, ◌+◌, ◌^◌, ◌⊎◌, ℕ, zero, suc, List, [], ◌∷◌, ◌++◌, Option, Some, None}
use Rattle.smr_clock.specs.declared.host.Host.{Ghosts}
use Rattle.replay_worker.specs.declared.gate.Call.{Call}
use Rattle.replay_worker.specs.declared.gate.Call.TheVariants.{Asked, Done}
use Rattle.replay_worker.specs.declared.gate.Gate.{Ghosts as GateGhosts}
use Rattle.replay_worker.specs.declared.gate.Go.{Go}
use Rattle.replay_worker.specs.declared.gate.Go.TheVariants as answers
use Rattle.replay_worker.specs.declared.worker_run.WorkerRun.{WorkerRun}
use Rattle.replay_worker.specs.Turn.{most_asks}

-- so many answers Hold in a row to operation `i` of worker `n`, behind these calls
unfoldable pub held_for : ℕ → ℕ → List Call → ℕ → List Call
held_for n i before zero = before
held_for n i before (suc times) = held_for n i before times ++ Asked n i answers.Hold ∷ []

-- Operation `i` of worker `n` was asked until an answer Go, so often.
pub record LetsGo (n i : ℕ) (before : List Call) (times : ℕ) (after : List Call) : Type 0 where
  pub holds : ℕ
  pub count : times ≡ holds + 1
  pub few : holds < most_asks
  pub calls : after ≡ held_for n i before holds ++ Asked n i answers.Go ∷ []

-- how often it was asked, if it was let go; None where it was held each of the 100,000,000 times in a row
abbrev pub Answers : ℕ → ℕ → List Call → Option ℕ → List Call → Type 0
Answers n i before (Some times) after = LetsGo n i before times after
Answers n i before None after = after ≡ held_for n i before most_asks

-- the last call asked for operation `i` of worker `n`
pub record IsAskedLast (n i : ℕ) (calls : List Call) : Type 0 where
  pub earlier : List Call
  pub answer : Go
  pub last : calls ≡ earlier ++ Asked n i answer ∷ []

-- the calls of a visit, and what a worker counted of its gate
pub record Heard : Type 0 where
  pub calls : List Call
  pub asked : ℕ
  pub gave_up : ℕ

-- The wait before an operation. Each call is counted; a giving up is counted where the last of 100,000,000 calls was a Hold, and only there.
abbrev pub Waits : ℕ → ℕ → Heard → Heard → Type 0
Waits n i was is = ((times : ℕ) × LetsGo n i was.calls times is.calls × (is.asked ≡ was.asked + times) × (is.gave_up ≡ was.gave_up))
    ⊎ ((is.calls ≡ held_for n i was.calls most_asks) × (is.asked ≡ was.asked + most_asks) × (is.gave_up ≡ was.gave_up + 1))

-- operation `i` of worker `n`: the wait before it, and then it is told as done, once
pub record HearsOne (n i : ℕ) (was is : Heard) : Type 0 where
  pub waited : Heard
  pub waits : Waits n i was waited
  pub told : is ≡ record waited { calls = waited.calls ++ Done n i ∷ [] }

-- so many operations of worker `n`, one after another, from 1 on
unfoldable pub HearsEach : ℕ → Heard → ℕ → Heard → Type 0
HearsEach n was zero is = is ≡ was
HearsEach n was (suc i) is = (mid : Heard) × HearsEach n was i mid × HearsOne n (suc i) mid is

module _ {N H C S P : Type 0} {h : Ghosts H P} where
  abbrev pub heard_by : List Call → WorkerRun N H C S P h → Heard
  heard_by calls r = record { calls = calls; asked = r.asked; gave_up = r.gave_up }

  -- its counts of its gate have room for one more wait
  pub record CanWait (r : WorkerRun N H C S P h) : Type 0 where
    pub asks : r.asked + most_asks < 2 ^ 64
    pub giving_up : r.gave_up + 1 < 2 ^ 64

  -- a wait changes nothing of it but what it counted of its gate
  pub record KeepsWork (old new : WorkerRun N H C S P h) : Type 0 where
    pub attendance : new.attendance ≡ old.attendance
    pub name_work : new.name_work ≡ old.name_work

  -- it was asked once at least and at most so often, and gave up once at most
  pub record CountsWait (old new : WorkerRun N H C S P h) : Type 0 where
    pub asked_some : old.asked + 1 ≤ new.asked
    pub asked_few : new.asked ≤ old.asked + most_asks
    pub gave_up : new.gave_up ≤ old.gave_up + 1

  module _ {G V : Type 0} (gates : GateGhosts G V) where
    -- In a visit of its gate the turn of worker `n` asked for so many operations, and told each as done. What the worker counted of its gate is what that visit heard.
    pub record AsksGate (gate : G) (n count : ℕ) (old new : WorkerRun N H C S P h) : Type 0 where
      pub visit : V
      pub of_gate : gates.is_of gate visit
      pub hears : HearsEach n (heard_by [] old) count (heard_by (gates.heard visit) new)
