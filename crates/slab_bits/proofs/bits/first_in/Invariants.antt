use Rattle.slab_bits.proofs.Least.{AreClear}
use Rattle.slab_bits.proofs.bits.first_in.Given as goal

abbrev pub invariant-loop-index : goal.invariant-loop-index
invariant-loop-index l = AreClear l.words l.start l.index
