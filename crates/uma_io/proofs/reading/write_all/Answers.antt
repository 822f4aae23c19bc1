-- One more write adds a front of the rest.
use Rattle.uma_io.proofs.Taking.{Adds-more}
use Rattle.std.proofs.Common.{arith}
use Rattle.uma_io.proofs.reading.write_all.Goals as goal

pub loop-rest-preserved : goal.loop-rest-preserved
loop-rest-preserved g c =
    let before = c.loop-rest.invariant in
    let (n, within, is, added) = before.written in
    let wrote = c.in_ok-taken.ensures in
    record {
      written = Adds-more _ _ n _ _ _ _ within is wrote.within added wrote.adds;
      never_fell = omega arith;
    }
