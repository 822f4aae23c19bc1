-- What the lines between two rounds do, one after another, and with them the rounds of all workers (own).
use Rattle.std.specs.Prelude.{◌≡◌, ℕ, List, [], ◌∷◌, Some, length, slice_get}
use Rattle.smr_clock.specs.declared.host.Host.{Ghosts}
use Rattle.trace_text.specs.declared.trace.Between.{Between}
use Rattle.trace_text.specs.declared.trace.Between.TheVariants.{Give, SetMax}
use Rattle.trace_text.specs.declared.trace.Round.{Round}
use Rattle.replay_worker.specs.declared.name_calls.NameCalls.{Ghosts as NameGhosts}
use Rattle.replay_worker.specs.declared.worker_run.WorkerRun.{WorkerRun}
use Rattle.replay_worker.specs.Giving.{Gives}
use Rattle.replay_worker.specs.Items.{CountedZone}
use Rattle.replay_worker.specs.NameLines.{DoesAll, line_state}
use Rattle.uma_zone.specs.SetMax.{SetsMax}
use Rattle.replay_rounds.specs.Parts.{ops_in}

module _ {H P : Type 0} {h : Ghosts H P} where
  -- The limit of the zone at this place was set to this one, once, under its keg's lock. There it was `former` before.
  pub record SetsLimitAt (zones : List (CountedZone H P h)) (place limit : ℕ) : Type 0 where
    pub zone : CountedZone H P h
    pub at : slice_get zones place ≡ Some zone
    pub former : ℕ
    pub sets : SetsMax zone limit former

module _ {N H C S P : Type 0} {h : Ghosts H P} where
  -- What one line does: a `give` line moves what a slot holds, and a `setmax` line sets the limit of its zone, and leaves the workers.
  abbrev pub DoesBetween : List (CountedZone H P h) → Between → List (WorkerRun N H C S P h) → List (WorkerRun N H C S P h) → Type 0
  DoesBetween zones (Give giver slot taker slot2) old new = Gives giver slot taker slot2 old new
  DoesBetween zones (SetMax zone limit) old new = SetsLimitAt zones zone limit × (new ≡ old)

  -- Each of these lines, one after another. A `give` line changes slots alone and a `setmax` line a keg's limit alone, so a limit that is set before the `give` lines ahead of it means the same to every state that is seen.
  unfoldable pub DoBetweens : List (CountedZone H P h) → List Between → List (WorkerRun N H C S P h) → List (WorkerRun N H C S P h) → Type 0
  DoBetweens zones [] old new = new ≡ old
  DoBetweens zones (between ∷ betweens) old new = (next : List (WorkerRun N H C S P h)) × DoesBetween zones between old next × DoBetweens zones betweens next new

module _ {N H C S P : Type 0} {h : Ghosts H P} (names : NameGhosts N H C S P) (cache : C) where
  -- One round: each worker did its own list of it, and then the lines behind it were done.
  pub record DoRound (zones : List (CountedZone H P h)) (r : Round) (old new : List (WorkerRun N H C S P h)) : Type 0 where
    pub worked : List (WorkerRun N H C S P h)
    pub count : length worked ≡ length old
    pub each : (n : ℕ) (was is : WorkerRun N H C S P h) → slice_get old n ≡ Some was → slice_get worked n ≡ Some is → DoesAll names cache zones (line_state was) (ops_in r n) (line_state is)
    pub behind : DoBetweens zones r.between worked new

  -- round `k`
  abbrev pub DoRoundAt : List (CountedZone H P h) → List Round → ℕ → List (WorkerRun N H C S P h) → List (WorkerRun N H C S P h) → Type 0
  DoRoundAt zones rounds k old new = (r : Round) → slice_get rounds k ≡ Some r → DoRound zones r old new

  -- all rounds, one after another
  unfoldable pub DoRounds : List (CountedZone H P h) → List Round → List (WorkerRun N H C S P h) → List (WorkerRun N H C S P h) → Type 0
  DoRounds zones [] old new = new ≡ old
  DoRounds zones (r ∷ rounds) old new = (next : List (WorkerRun N H C S P h)) × DoRound zones r old next × DoRounds zones rounds next new
