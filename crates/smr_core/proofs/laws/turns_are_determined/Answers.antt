use Rattle.smr_core.proofs.TurnLaws.{turn-is-determined, taken-is-not-refused}
use Rattle.smr_core.proofs.laws.turns_are_determined.Goals as goal

pub returns-clause-determined : goal.returns-clause-determined
returns-clause-determined c = turn-is-determined

pub returns-clause-not_refused : goal.returns-clause-not_refused
returns-clause-not_refused c = taken-is-not-refused
