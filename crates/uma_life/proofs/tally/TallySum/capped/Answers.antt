use Rattle.uma_life.proofs.Sums.{sums_capped}
use Rattle.uma_life.proofs.tally.TallySum.capped.Goals as goal

pub returns : goal.returns
returns c =
    let zones = c.capped_zones.ensures in
    sums_capped _ _ c.capped.ensures c.capped-2.ensures zones.eight.0 zones.eight.1 zones.capped
