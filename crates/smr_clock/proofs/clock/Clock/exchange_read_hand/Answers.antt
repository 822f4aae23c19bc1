use Rattle.std.proofs.Common.{rules}
use Rattle.smr_clock.proofs.Steps.{poll_swaps}
use Rattle.smr_clock.proofs.clock.Clock.exchange_read_hand.Goals as goal

pub compare_exchange-requires : goal.compare_exchange-requires
compare_exchange-requires g c = (search rules, search rules, poll_swaps _ g.H.Host.includes g.H.Host.frame _ _ _ _ (search rules) _ _ (search rules) (search rules) (search rules) (search rules))
