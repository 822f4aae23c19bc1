use Rattle.std.proofs.Common.{rules}
use Rattle.smr_clock.proofs.Steps.{read_looks}
use Rattle.smr_clock.proofs.clock.Clock.look_at_read_hand.Goals as goal

pub load-requires : goal.load-requires
load-requires g c = (search rules, search rules, read_looks _ g.H.Host.includes g.H.Host.frame _ _ _ _ (search rules))
