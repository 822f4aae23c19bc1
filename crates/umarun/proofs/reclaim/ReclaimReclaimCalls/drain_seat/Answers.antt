use Rattle.uma_reclaim.specs.Reclaimed.{takes_of}
use Rattle.umarun.proofs.reclaim.ReclaimReclaimCalls.drain_seat.Goals as goal

pub returns-clause-drained : goal.returns-clause-drained
returns-clause-drained g c =
    let done = c.in-Ok._done in
    let told = c.in-Ok.ensures.drains in
    let kept = c.in-Ok.ensures.kept in
    record {
      seat = record { keeps = record { same = kept.same; spares = kept.shelf.spares; freed = kept.freed; counts = kept.counts; misses = kept.misses }; flushed = told.first.flushed; no_usable = told.no_usable; no_cross = told.no_cross };
      gives = record { shelf = kept.shelf.flushes; settled = told.first.settled; takes = takes_of done; from = told.takes.from; own = told.takes.own; given = told.takes.given };
      own = told.given_own;
      slabs = done.slabs;
      gave_up = told.slabs.gave_up;
    }
