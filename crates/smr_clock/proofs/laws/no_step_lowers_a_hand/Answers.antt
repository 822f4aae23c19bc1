use Rattle.smr_clock.proofs.MomentLemmas.{steps-lower-no-hand}
use Rattle.smr_clock.proofs.ReuseLemmas.{runs-follow}
use Rattle.smr_clock.proofs.laws.no_step_lowers_a_hand.Goals as goal

pub returns-clause-steps : goal.returns-clause-steps
returns-clause-steps g c = λ setup. steps-lower-no-hand setup

pub returns-clause-runs : goal.returns-clause-runs
returns-clause-runs g c = λ setup. runs-follow setup
