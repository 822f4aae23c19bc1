-- The parts of a core, seen as its state.
use Rattle.smr_core.specs.declared.steps.Works.{Works}
use Rattle.smr_core.specs.CoreState.{State}

abbrev pub state_of : Works → State
state_of w = record { config = w.config; words = w.words.items; actors = w.actors.items }
