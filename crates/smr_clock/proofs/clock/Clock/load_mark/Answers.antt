use Rattle.std.proofs.Common.{rules}
use Rattle.smr_clock.proofs.Steps.{enter_checks}
use Rattle.smr_clock.proofs.clock.Clock.load_mark.Goals as goal

pub load-found-requires : goal.load-found-requires
load-found-requires g c = (search rules, search rules, enter_checks _ g.H.Host.includes g.H.Host.frame _ _ _ _ (search rules) (search rules))
