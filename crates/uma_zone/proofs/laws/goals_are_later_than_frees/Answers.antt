use Rattle.uma_zone.proofs.Sealed.{goals_are_later}
use Rattle.uma_zone.proofs.laws.goals_are_later_than_frees.Goals as goal

pub returns : goal.returns
returns g c = goals_are_later
