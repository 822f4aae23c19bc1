use Rattle.std.proofs.Common.{refl}
use Rattle.uma_life.proofs.Outsides.{cached_of}
use Rattle.uma_life.proofs.states.Outside.of_cached.Goals as goal

pub returns : goal.returns
returns g c = cached_of _ c.args.item refl refl
