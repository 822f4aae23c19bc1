-- The laws of turns: each is determined by the state, and a turn that is taken is not refused.
use Rattle.std.specs.Prelude.{◌≡◌, ◌≢◌, List}
use Rattle.smr_core.specs.declared.turns.Seen.{Seen}
use Rattle.smr_core.specs.declared.turns.StepRefused.{StepRefused}
use Rattle.smr_core.specs.declared.turns.StepRefused.TheVariants.{Memory}
use Rattle.smr_core.specs.declared.turns.Turn.{Turn}
use Rattle.smr_core.specs.CoreState.{State}
use Rattle.smr_core.specs.CoreStep.{StepIsRefused}
use Rattle.smr_core.specs.Turns.{IsTurn, first_step}

-- from a state a turn sees one thing, and leads to one state
abbrev pub TurnIsDetermined : Type 0
TurnIsDetermined =
    (s s' t : State) (turn : Turn) (sees more : List Seen) → IsTurn s turn sees s' → IsTurn s turn more t → (sees ≡ more) × (s' ≡ t)

-- a turn that may be taken is refused for want of memory at most
abbrev pub TakenIsNotRefused : Type 0
TakenIsNotRefused =
    (s s' : State) (turn : Turn) (sees : List Seen) (refused : StepRefused) → IsTurn s turn sees s' → refused ≢ Memory → StepIsRefused s (first_step turn) refused → ⊥
