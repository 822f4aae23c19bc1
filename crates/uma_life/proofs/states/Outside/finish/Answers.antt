use Rattle.std.proofs.Common.{refl}
use Rattle.uma_life.proofs.Outsides.{finishes}
use Rattle.uma_life.proofs.states.Outside.finish.Goals as goal

pub returns : goal.returns
returns g c = finishes (g.K.Hooks.leaves_dtor c.args.hooks.now) c.args.self.now _ c.zone.result c.requires c.zone.ensures.kept refl c.dtor.ensures.passed c.dtor.ensures.left
