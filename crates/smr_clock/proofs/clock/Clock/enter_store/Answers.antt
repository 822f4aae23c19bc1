use Rattle.std.proofs.Common.{rules}
use Rattle.smr_clock.proofs.Steps.{enter_stores}
use Rattle.smr_clock.proofs.clock.Clock.enter_store.Goals as goal

pub store-requires : goal.store-requires
store-requires g c = (search rules, search rules, enter_stores _ g.H.Host.includes g.H.Host.frame _ _ _ _ (search rules) _ c.args.pass.now.number _ (search rules) (search rules) (search rules) (search rules) (search rules))
