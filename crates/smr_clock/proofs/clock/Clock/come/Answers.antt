use Rattle.std.proofs.Common.{rules}
use Rattle.smr_clock.proofs.Steps.{comes}
use Rattle.smr_clock.proofs.clock.Clock.come.Goals as goal

pub fetch_or-requires : goal.fetch_or-requires
fetch_or-requires g c = (search rules, search rules, comes _ g.H.Host.includes g.H.Host.frame _ _ _ _ (search rules) _ c.args.vacancy.number _ (search rules) (search rules) (search rules) (search rules))
