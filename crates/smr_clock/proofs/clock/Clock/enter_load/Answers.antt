use Rattle.std.proofs.Common.{rules}
use Rattle.smr_clock.proofs.Steps.{enter_loads}
use Rattle.smr_clock.proofs.clock.Clock.enter_load.Goals as goal

pub load-pass-requires : goal.load-pass-requires
load-pass-requires g c = (search rules, search rules, enter_loads _ g.H.Host.includes g.H.Host.frame _ _ _ _ (search rules) (search rules))
