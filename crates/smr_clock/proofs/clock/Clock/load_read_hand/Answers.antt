use Rattle.std.proofs.Common.{rules}
use Rattle.smr_clock.proofs.Steps.{advance_reads}
use Rattle.smr_clock.proofs.clock.Clock.load_read_hand.Goals as goal

pub load-requires : goal.load-requires
load-requires g c = (search rules, search rules, advance_reads _ g.H.Host.includes g.H.Host.frame _ _ _ _ (search rules) (search rules) (search rules))
