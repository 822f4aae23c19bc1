use Rattle.std.proofs.Common.{inl, inr}
use Rattle.smr_clock.specs.Belongs.{view}
use Rattle.uma_seat.specs.Seat.{shelf_of}
use Rattle.uma_zone.specs.Stopped.{StopsSettling}
use Rattle.uma_zone.specs.Zone.{lists_of}
use Rattle.uma_reclaim.specs.Reclaimed.{StopsFlush}
use Rattle.uma_reclaim.proofs.Passes.{keeps_on}
use Rattle.uma_reclaim.proofs.Shelves.{none_stays, at_err, then_ok, then_err}
use Rattle.uma_reclaim.proofs.reclaim.flush_and_settle.Goals as goal

pub returns-in_err-flush-clause-kept : goal.returns-in_err-flush-clause-kept
returns-in_err-flush-clause-kept g c =
    let flush = c.flush.ensures in
    record {
      pass = flush.pass;
      shelf = record { seat = flush.seat; flushes = record { left = view c.flush.new.pass; flushes = flush.flushes }; spares = flush.spares };
      items = flush.kept;
    }

pub returns-clause-kept : goal.returns-clause-kept
returns-clause-kept g c =
    let flush = c.flush.ensures in
    record {
      pass = keeps_on c.args.clock.now c.args.pass.now c.flush.new.pass c.settle.new.pass flush.pass c.settle.ensures.pass;
      shelf = record { seat = flush.seat; flushes = record { left = view c.flush.new.pass; flushes = flush.flushes }; spares = flush.spares };
      items = flush.kept;
    }

pub returns-clause-done : goal.returns-clause-done
returns-clause-done g c =
    then_ok c.settle.result (λ settles. record {
      settled = record { before = view c.flush.new.pass; after = view c.settle.new.pass; settles = settles };
      flushed = c.in_ok-flush.ensures.flushed;
    }) c.settle.ensures.settled

pub returns-in_err-flush-clause-stopped : goal.returns-in_err-flush-clause-stopped
returns-in_err-flush-clause-stopped g c =
    let stops : StopsFlush c.args.zone.now g.H.Host.copied c.args.seat.now c.flush.new.seat = record { stay = c.in_err-flush.ensures.stay; stopped = record { how = inl c.in_err-flush.ensures.some_stay } } in
    at_err _ stops

pub returns-clause-stopped : goal.returns-clause-stopped
returns-clause-stopped g c =
    let part : StopsSettling (lists_of c.args.zone.now) g.H.Host.copied (view c.flush.new.pass) (view c.settle.new.pass) → StopsFlush c.args.zone.now g.H.Host.copied c.args.seat.now c.flush.new.seat =
    λ stops. record {
      stay = none_stays (shelf_of c.args.seat.now) (shelf_of c.flush.new.seat) c.in_ok-flush.ensures.flushed;
      stopped = record { how = inr (record { before = view c.flush.new.pass; after = view c.settle.new.pass; stops = stops }) };
    } in
    then_err c.settle.result part c.settle.ensures.stopped
