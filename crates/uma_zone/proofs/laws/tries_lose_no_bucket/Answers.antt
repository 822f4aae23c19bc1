use Rattle.uma_zone.proofs.Tried.{tries_lose_none}
use Rattle.uma_zone.proofs.laws.tries_lose_no_bucket.Goals as goal

pub returns : goal.returns
returns g c = tries_lose_none
