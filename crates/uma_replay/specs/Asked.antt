-- What the workers of a replay asked of their gate, by the gate's own meaning of its visits (own).
use Rattle.std.specs.Prelude.{◌≡◌, ℕ, List, Some, slice_get}
use Rattle.trace_text.specs.declared.trace.Round.{Round}
use Rattle.replay_worker.specs.declared.gate.Gate.{Ghosts as GateGhosts}
use Rattle.replay_rounds.specs.Asks.{AsksRounds, not_asked}

module _ {G V : Type 0} (gates : GateGhosts G V) (gate : G) where
  -- These are the givings-up of the workers, in order: in each round each asked for its own list, operation by operation, in a visit of its own to the gate, and told each as done. It gave up where it was held 100,000,000 times in a row at one operation, so often in all, and nowhere else.
  abbrev pub AreGivenUp : List Round → List ℕ → Type 0
  AreGivenUp rounds gave_ups = (n count : ℕ) → slice_get gave_ups n ≡ Some count → (asked : ℕ) × AsksRounds gates gate n not_asked rounds (record { asked = asked; gave_up = count })
