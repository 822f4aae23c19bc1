use Rattle.std.proofs.Common.{refl}
use Rattle.uma_life.proofs.Outsides.{cached_of}
use Rattle.uma_life.proofs.states.Outside.into_cached.Goals as goal

pub returns : goal.returns
returns g c = cached_of c.args.self _ refl refl
