use Rattle.std.proofs.Common.{rules}
use Rattle.smr_clock.proofs.Steps.{poll_presents}
use Rattle.smr_clock.proofs.clock.Clock.load_present.Goals as goal

pub load-requires : goal.load-requires
load-requires g c = (search rules, search rules, poll_presents _ g.H.Host.includes g.H.Host.frame _ _ _ _ (search rules) _ (search rules) (search rules))
