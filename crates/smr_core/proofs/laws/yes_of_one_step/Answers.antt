use Rattle.smr_core.proofs.RunLaws.{yes-is-known, yes-means-expired}
use Rattle.smr_core.proofs.laws.yes_of_one_step.Goals as goal

pub returns-clause-known : goal.returns-clause-known
returns-clause-known c = yes-is-known

pub returns-clause-expired : goal.returns-clause-expired
returns-clause-expired c = yes-means-expired
