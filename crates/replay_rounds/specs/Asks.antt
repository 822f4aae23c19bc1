-- What the rounds ask of the workers' gate, one after another, by the gate's own meaning of its visits (own).
use Rattle.std.specs.Prelude.{◌≡◌, ◌<◌, ℕ, List, [], ◌∷◌, OnOk, Some, length, slice_get, slice_index_or}
use Rattle.smr_clock.specs.declared.host.Host.{Ghosts}
use Rattle.trace_text.specs.declared.trace.Round.{Round}
use Rattle.replay_worker.specs.declared.gate.Gate.{Ghosts as GateGhosts}
use Rattle.replay_worker.specs.declared.worker_run.WorkerRun.{WorkerRun}
use Rattle.replay_worker.specs.Asking.{AsksGate, HearsEach}
use Rattle.replay_worker.specs.OwnLines.{own_ops}
use Rattle.replay_rounds.specs.Parts.{ops_in}

-- what a worker counted of its gate: how often that was asked, and how often it gave up waiting
pub record GateCounts : Type 0 where
  pub asked : ℕ
  pub gave_up : ℕ

abbrev pub not_asked : GateCounts
not_asked = record { asked = 0; gave_up = 0 }

module _ {G V : Type 0} (gates : GateGhosts G V) (gate : G) where
  -- One round of worker `n`: in a visit of its own to the gate it asked for so many operations, and told each as done.
  pub record AsksIn (n count : ℕ) (was is : GateCounts) : Type 0 where
    pub visit : V
    pub of_gate : gates.is_of gate visit
    pub hears : HearsEach n (record { calls = []; asked = was.asked; gave_up = was.gave_up }) count (record { calls = gates.heard visit; asked = is.asked; gave_up = is.gave_up })

  -- its rounds, one after another
  unfoldable pub AsksRounds : ℕ → GateCounts → List Round → GateCounts → Type 0
  AsksRounds n was [] is = is ≡ was
  AsksRounds n was (r ∷ rounds) is = (next : GateCounts) × AsksIn n (length (ops_in r n)) was next × AsksRounds n next rounds is

module _ {N H C S P : Type 0} {h : Ghosts H P} where
  abbrev pub gate_counts : WorkerRun N H C S P h → GateCounts
  gate_counts r = record { asked = r.asked; gave_up = r.gave_up }

  module _ {G V : Type 0} (gates : GateGhosts G V) (gate : G) where
    -- each worker that didn't want memory asked for its own list of round `k`
    abbrev pub EachAsks : List Round → ℕ → List (WorkerRun N H C S P h) → List (WorkerRun N H C S P h) → Type 0
    EachAsks rounds k old new = (n : ℕ) (d : WorkerRun N H C S P h) → n < length old
        → OnOk (slice_index_or new n d).ended (AsksGate gates gate n (length (own_ops rounds k n)) (slice_index_or old n d) (slice_index_or new n d))

    -- each worker asked for its round `k`
    abbrev pub AllAskRound : List Round → ℕ → List (WorkerRun N H C S P h) → List (WorkerRun N H C S P h) → Type 0
    AllAskRound rounds k old new = (n : ℕ) (was is : WorkerRun N H C S P h) → slice_get old n ≡ Some was → slice_get new n ≡ Some is
        → AsksIn gates gate n (length (own_ops rounds k n)) (gate_counts was) (gate_counts is)

    -- each worker asked for these rounds
    abbrev pub AllAsk : List Round → List (WorkerRun N H C S P h) → List (WorkerRun N H C S P h) → Type 0
    AllAsk rounds old new = (n : ℕ) (was is : WorkerRun N H C S P h) → slice_get old n ≡ Some was → slice_get new n ≡ Some is → AsksRounds gates gate n (gate_counts was) rounds (gate_counts is)
