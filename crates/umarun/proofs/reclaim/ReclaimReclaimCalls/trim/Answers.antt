use Rattle.uma_reclaim.specs.Reclaimed.{takes_of}
use Rattle.umarun.proofs.reclaim.ReclaimReclaimCalls.trim.Goals as goal

pub returns-clause-trimmed : goal.returns-clause-trimmed
returns-clause-trimmed g c =
    let done = c.in-Ok._done in
    let told = c.in-Ok.ensures.trims in
    let kept = c.in-Ok.ensures.kept in
    record {
      seat = record { keeps = record { same = kept.items.same; spares = kept.shelf.spares; freed = kept.items.freed; counts = kept.items.counts; misses = kept.items.misses }; flushed = told.first.flushed; top = kept.items.top; plain = kept.items.plain };
      gives = record { shelf = kept.shelf.flushes; settled = told.first.settled; takes = takes_of done; from = told.gives.takes.from; own = told.gives.takes.own; given = told.gives.takes.given };
    }
