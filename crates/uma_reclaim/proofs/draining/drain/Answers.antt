use Rattle.std.proofs.Common.{fold, flat_map, ap, ◌∙◌, inl, inr}
use Rattle.smr_clock.specs.Belongs.{view}
use Rattle.uma_seat.specs.Seat.{shelf_of}
use Rattle.uma_reclaim.specs.declared.reclaim.Extent.TheVariants.{All as All'}
use Rattle.uma_reclaim.specs.Reclaimed.{takes_of, DrainStops}
use Rattle.uma_reclaim.specs.Told.{notes_in}
use Rattle.uma_reclaim.proofs.Passes.{none_in, then_in}
use Rattle.uma_reclaim.proofs.Shelves.{none_stays, at_err}
use Rattle.uma_reclaim.proofs.Turns.{stops_from}
use Rattle.uma_reclaim.proofs.draining.drain.Goals as goal

pub returns-in_err-flush_and_settle-clause-kept : goal.returns-in_err-flush_and_settle-clause-kept
returns-in_err-flush_and_settle-clause-kept g c =
    let first = c.flush_and_settle.ensures.kept in
    record {
      notes = none_in c.args.clock.now g.H.Host.merged c.args.pass.now c.flush_and_settle.new.pass first.pass;
      shelf = first.shelf;
      items = first.items;
    }

pub returns-in_err-done-clause-kept : goal.returns-in_err-done-clause-kept
returns-in_err-done-clause-kept g c =
    let first = c.flush_and_settle.ensures.kept in
    record {
      notes = then_in c.args.clock.now g.H.Host.merged c.args.pass.now c.flush_and_settle.new.pass c.give_back.new.pass first.pass c.give_back.ensures.kept;
      shelf = first.shelf;
      items = first.items;
    }

pub returns-clause-kept : goal.returns-clause-kept
returns-clause-kept g c =
    let first = c.flush_and_settle.ensures.kept in
    record {
      notes = then_in c.args.clock.now g.H.Host.merged c.args.pass.now c.flush_and_settle.new.pass c.give_back.new.pass first.pass c.give_back.ensures.kept;
      shelf = first.shelf;
      items = first.items;
    }

pub returns-clause-drains : goal.returns-clause-drains
returns-clause-drains g c =
    let gives = c.in_ok-done.ensures.gives in
    record {
      first = c.in_ok-flush_and_settle.ensures.done;
      takes = record {
        told = gives.takes.told ∙ ap (λ part. fold g.H.Host.merged part (flat_map notes_in (takes_of c.in_ok-done.done))) c.flush_and_settle.ensures.kept.pass.host;
        from = gives.takes.from;
        own = gives.takes.own;
        given = gives.takes.given;
      };
      items = gives.items;
      slabs = record { few = c.free_slabs.ensures.few; gave_up = c.free_slabs.ensures.freed };
    }

pub returns-in_err-flush_and_settle-clause-stopped : goal.returns-in_err-flush_and_settle-clause-stopped
returns-in_err-flush_and_settle-clause-stopped g c =
    let stopped = c.in_err-flush_and_settle.ensures.stopped in
    let stops : DrainStops c.args.zone.now g.H.Host.merged g.H.Host.copied (view c.args.pass.now).host (view c.flush_and_settle.new.pass).host c.args.seat.now c.flush_and_settle.new.seat =
    record { stay = stopped.stay; stopped = record { how = inl (stopped.stopped, c.flush_and_settle.ensures.kept.pass.host) } } in
    at_err _ stops

pub returns-in_err-done-clause-stopped : goal.returns-in_err-done-clause-stopped
returns-in_err-done-clause-stopped g c =
    let zone = c.args.zone.now in
    let merged = g.H.Host.merged in
    let was = (view c.args.pass.now).host in
    let mid = (view c.flush_and_settle.new.pass).host in
    let is = (view c.give_back.new.pass).host in
    let first = c.in_ok-flush_and_settle.ensures.done in
    let stops : DrainStops zone merged g.H.Host.copied was is c.args.seat.now c.flush_and_settle.new.seat = record {
      stay = none_stays (shelf_of c.args.seat.now) (shelf_of c.flush_and_settle.new.seat) first.flushed;
      stopped = record { how = inr (first.settled, stops_from zone All' merged was mid is c.flush_and_settle.ensures.kept.pass.host c.in_err-done.ensures.stopped) };
    } in
    at_err _ stops
