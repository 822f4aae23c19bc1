use Rattle.std.proofs.Common.{arith, rules}
use Rattle.uma_life.specs.Hook.{KegInit, KegFini}
use Rattle.uma_life.proofs.Sums.{sums_joined, zones_below}
use Rattle.uma_life.proofs.tally.TallySum.add_sums.Goals as goal

pub overflow_add-self : goal.overflow_add-self
overflow_add-self c = omega (arith, c.requires.room KegInit, c.requires.few KegInit)

pub overflow_add-self-2 : goal.overflow_add-self-2
overflow_add-self-2 c = omega (arith, c.requires.room KegFini, c.requires.few KegFini)

pub zones_and-self-requires-clause-room : goal.zones_and-self-requires-clause-room
zones_and-self-requires-clause-room c = zones_below _ c.args.self.now c.requires.room

pub zones_and-self-requires-clause-few : goal.zones_and-self-requires-clause-few
zones_and-self-requires-clause-few c = zones_below _ c.args.others c.requires.few

pub returns : goal.returns
returns c =
    let zones = c.zones_and-self.ensures in
    sums_joined _ _ _ (search rules) (search rules) zones.eight.0 zones.eight.1 zones.eight.2 zones.sums
