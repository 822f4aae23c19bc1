use Rattle.std.proofs.Common.{rules}
use Rattle.smr_clock.proofs.Steps.{leaves}
use Rattle.smr_clock.proofs.clock.Clock.leave.Goals as goal

pub fetch_and-requires : goal.fetch_and-requires
fetch_and-requires g c = (search rules, search rules, leaves _ g.H.Host.includes g.H.Host.frame _ _ _ _ (search rules) _ c.args.pass.number _ (search rules) (search rules) (search rules) (search rules) (search rules))
