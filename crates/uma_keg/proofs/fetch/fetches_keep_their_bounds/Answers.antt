use Rattle.uma_keg.proofs.FetchOutcomes.{fetch_law}
use Rattle.uma_keg.proofs.fetch.fetches_keep_their_bounds.Goals as goal

pub returns : goal.returns
returns c = fetch_law
