use Rattle.smr_clock.proofs.ReuseLemmas.{known-is-over, known-stays-over}
use Rattle.smr_clock.proofs.laws.no_section_is_before_a_known_goal.Goals as goal

pub returns-clause-known : goal.returns-clause-known
returns-clause-known g c = λ setup. known-is-over setup

pub returns-clause-runs : goal.returns-clause-runs
returns-clause-runs g c = λ setup. known-stays-over setup
