use Rattle.std.proofs.Common.{arith}
use Rattle.uma_slabs.proofs.StandingSets.{numbers_more}
use Rattle.uma_slabs.proofs.rooms.numbers_below.Goals as goal

pub loop-no-preserved : goal.loop-no-preserved
loop-no-preserved c = rw (c.set.ensures, c.loop-no.invariant) (numbers_more c.loop-no.no (omega arith))
