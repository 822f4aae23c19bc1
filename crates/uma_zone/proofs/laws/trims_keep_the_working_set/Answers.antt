use Rattle.uma_zone.proofs.Trimmed.{trims_keep_floor, drains_lose_none}
use Rattle.uma_zone.proofs.laws.trims_keep_the_working_set.Goals as goal

pub returns-clause-trims : goal.returns-clause-trims
returns-clause-trims g c = trims_keep_floor

pub returns-clause-drains : goal.returns-clause-drains
returns-clause-drains g c = drains_lose_none
