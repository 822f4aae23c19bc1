-- The steps of the workers of a replay: what each did, line after line and round after round (own).
use Rattle.std.specs.Prelude.{◌≡◌, ◌≤◌, ℕ, Bool, List, [], ◌∷◌, Some, count_by, length, slice_get, take}
use Rattle.std.specs.List.{flat_map}
use Rattle.smr_clock.specs.declared.host.Host.{Ghosts}
use Rattle.smr_clock.specs.declared.view.View.{View}
use Rattle.smr_clock.specs.Belongs.{view}
use Rattle.trace_text.specs.declared.trace.Op.{Op}
use Rattle.trace_text.specs.declared.trace.Round.{Round}
use Rattle.uma_life.specs.declared.states.Ticket.{Ticket}
use Rattle.replay_worker.specs.declared.name_calls.NameCalls.{Ghosts as NameGhosts}
use Rattle.replay_worker.specs.declared.worker_run.WorkerRun.{WorkerRun}
use Rattle.replay_worker.specs.Items.{CountedZone}
use Rattle.replay_worker.specs.NameLines.{LineState, DoesLine, line_state}
use Rattle.replay_rounds.specs.Betweens.{DoBetweens}
use Rattle.replay_rounds.specs.Parts.{ops_in}

-- One line that a worker did: the operation, and its worker, with what it has of the names, before and after it.
pub record Step (N H C S P : Type 0) (h : Ghosts H P) : Type 0 where
  pub op : Op
  pub old : LineState N H C S P h
  pub new : LineState N H C S P h

module _ {N H C S P : Type 0} {h : Ghosts H P} where
  -- all steps of worker `n`, from what each worker did in each round
  abbrev pub steps_of : ℕ → List (ℕ → List (Step N H C S P h)) → List (Step N H C S P h)
  steps_of n rounds = flat_map (λ (round : ℕ → List (Step N H C S P h)). round n) rounds

  -- what the worker's pass has seen
  abbrev pub seen : LineState N H C S P h → View P
  seen d = view d.worker.pass

module _ {N H C S P : Type 0} {h : Ghosts H P} (names : NameGhosts N H C S P) (cache : C) (zones : List (CountedZone H P h)) where
  -- A worker's own list in a round, line after line, each from what the one before it left. What a line does, to the slots and to the pass too, `DoesLine` says.
  abbrev pub AreSteps : List Op → LineState N H C S P h → List (Step N H C S P h) → LineState N H C S P h → Type 0
  AreSteps [] old [] new = new ≡ old
  AreSteps (op ∷ ops) old (step ∷ steps) new = (step.op ≡ op) × (step.old ≡ old) × DoesLine names cache zones step.old step.op step.new × AreSteps ops step.new steps new
  AreSteps ops old steps new = ⊥

  -- One round of all workers: each did its steps, and then the `give` and `setmax` lines behind them moved what slots hold, and set limits, one after another.
  pub record IsRound (r : Round) (old : List (WorkerRun N H C S P h)) (steps : ℕ → List (Step N H C S P h)) (new : List (WorkerRun N H C S P h)) : Type 0 where
    pub worked : List (WorkerRun N H C S P h)
    pub count : length worked ≡ length old
    pub each : (n : ℕ) (was is : WorkerRun N H C S P h) → slice_get old n ≡ Some was → slice_get worked n ≡ Some is → AreSteps (ops_in r n) (line_state was) (steps n) (line_state is)
    pub behind : DoBetweens zones r.between worked new

  -- all rounds, one after another
  abbrev pub AreRounds : List Round → List (WorkerRun N H C S P h) → List (ℕ → List (Step N H C S P h)) → List (WorkerRun N H C S P h) → Type 0
  AreRounds [] old [] new = new ≡ old
  AreRounds (r ∷ rounds) old (steps ∷ later) new = (next : List (WorkerRun N H C S P h)) × IsRound r old steps next × AreRounds rounds next later new
  AreRounds rounds old steps new = ⊥

-- After each so many of the lines, whichever items are asked of, no more of them had left the seat than were brought to it.
abbrev pub AreAmong : {L : Type 0} → (L → List Ticket) → (L → List Ticket) → List L → Type 0
AreAmong gone brought lines = (count : ℕ) (is : Ticket → Bool) → count_by is (flat_map gone (take count lines)) ≤ count_by is (flat_map brought (take count lines))
