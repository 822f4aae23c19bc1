use Rattle.slab_bits.proofs.Summed.{AreSummed-empty, places_of-zeros}
use Rattle.slab_bits.proofs.wide.Wide.empty.Goals as goal

pub invariant_of-result : goal.invariant_of-result
invariant_of-result c = AreSummed-empty

pub returns : goal.returns
returns c = places_of-zeros
