use Rattle.std.proofs.Common.{rules}
use Rattle.smr_clock.proofs.Steps.{write_looks}
use Rattle.smr_clock.proofs.clock.Clock.look_at_write_hand.Goals as goal

pub load-requires : goal.load-requires
load-requires g c = (search rules, search rules, write_looks _ g.H.Host.includes g.H.Host.frame _ _ _ _ (search rules))
