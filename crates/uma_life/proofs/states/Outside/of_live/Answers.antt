use Rattle.std.proofs.Common.{refl}
use Rattle.uma_life.proofs.Outsides.{live_of}
use Rattle.uma_life.proofs.states.Outside.of_live.Goals as goal

pub returns : goal.returns
returns g c = live_of _ c.args.item refl refl
