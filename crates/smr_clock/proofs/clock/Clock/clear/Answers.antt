use Rattle.std.proofs.Common.{rules}
use Rattle.smr_clock.proofs.Steps.{clears}
use Rattle.smr_clock.proofs.clock.Clock.clear.Goals as goal

pub store-requires : goal.store-requires
store-requires g c = (search rules, search rules, clears _ g.H.Host.includes g.H.Host.frame _ _ _ _ (search rules) _ c.args.pass.now.number (search rules) (search rules) (search rules) (search rules))
