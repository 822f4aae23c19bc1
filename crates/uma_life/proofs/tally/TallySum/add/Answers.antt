use Rattle.std.proofs.Common.{arith, rules}
use Rattle.uma_life.specs.Hook.{KegInit, KegFini}
use Rattle.uma_life.proofs.Sums.{sums_added, counts_small, zones_below}
use Rattle.uma_life.proofs.tally.TallySum.add.Goals as goal

pub overflow_add-self : goal.overflow_add-self
overflow_add-self c = omega (arith, c.requires KegInit)

pub overflow_add-self-2 : goal.overflow_add-self-2
overflow_add-self-2 c = omega (arith, c.requires KegFini)

pub zones_with-self-requires : goal.zones_with-self-requires
zones_with-self-requires c = zones_below _ c.args.self.now c.requires

pub returns-clause-sums : goal.returns-clause-sums
returns-clause-sums c =
    let zones = c.zones_with-self.ensures in
    sums_added _ _ _ (search rules) (search rules) zones.eight.0 zones.eight.1 zones.eight.2 zones.sums

pub returns-clause-counts : goal.returns-clause-counts
returns-clause-counts c =
    let zones = c.zones_with-self.ensures in
    counts_small _ (omega arith) (omega arith) zones.eight.1 zones.counts
