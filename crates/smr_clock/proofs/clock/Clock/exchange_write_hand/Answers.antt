use Rattle.std.proofs.Common.{rules}
use Rattle.smr_clock.proofs.Steps.{advance_swaps}
use Rattle.smr_clock.proofs.clock.Clock.exchange_write_hand.Goals as goal

pub compare_exchange-requires : goal.compare_exchange-requires
compare_exchange-requires g c = (search rules, search rules, advance_swaps _ g.H.Host.includes g.H.Host.frame _ _ _ _ (search rules) _ _ (search rules) (search rules) (search rules))
