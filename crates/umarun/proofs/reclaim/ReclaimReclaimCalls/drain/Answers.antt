use Rattle.uma_reclaim.specs.Reclaimed.{takes_of}
use Rattle.umarun.proofs.reclaim.ReclaimReclaimCalls.drain.Goals as goal

pub returns-clause-drained : goal.returns-clause-drained
returns-clause-drained g c =
    let done = c.in-Ok._done in
    let told = c.in-Ok.ensures.drains in
    let kept = c.in-Ok.ensures.kept in
    record {
      seat = record { keeps = record { same = kept.items.same; spares = kept.shelf.spares; freed = kept.items.freed; counts = kept.items.counts; misses = kept.items.misses }; flushed = told.first.flushed; top = kept.items.top; plain = kept.items.plain };
      gives = record { shelf = kept.shelf.flushes; settled = told.first.settled; takes = takes_of done; from = told.takes.from; own = told.takes.own; given = told.takes.given };
      slabs = done.slabs;
      gave_up = told.slabs.gave_up;
    }
