use Rattle.std.proofs.Common.{sum_by, fold, flat_map, ap, subst, ◌∙◌, inl, inr}
use Rattle.std.specs.declared.vec.Vec.{Vec}
use Rattle.smr_clock.specs.Belongs.{view}
use Rattle.uma_seat.specs.Rack.{spares_in, shelf_in}
use Rattle.uma_seat.specs.Seat.{seat_domain, shelf_of}
use Rattle.uma_zone.specs.Ports.{pushed_by, sent_of}
use Rattle.uma_zone.proofs.Listings.{still_flushed}
use Rattle.uma_reclaim.specs.declared.reclaim.Extent.TheVariants.{All as All'}
use Rattle.uma_reclaim.specs.Cached.{cached_in}
use Rattle.uma_reclaim.specs.Given.{GivesEach, items_in, counted}
use Rattle.uma_reclaim.specs.Reclaimed.{takes_of, SeatDrainStops}
use Rattle.uma_reclaim.specs.Told.{notes_in}
use Rattle.uma_reclaim.proofs.Passes.{none_in, then_in}
use Rattle.uma_reclaim.proofs.Rows.{counted_sum}
use Rattle.uma_reclaim.proofs.Seats.{still_cached}
use Rattle.uma_reclaim.proofs.Shelves.{none_stays, at_err}
use Rattle.uma_reclaim.proofs.Turns.{stops_from}
use Rattle.uma_reclaim.proofs.draining.drain_seat.Goals as goal

pub returns-in_err-flush_and_settle-clause-kept : goal.returns-in_err-flush_and_settle-clause-kept
returns-in_err-flush_and_settle-clause-kept g c =
    let first = c.flush_and_settle.ensures.kept in
    record {
      notes = none_in c.args.clock.now g.H.Host.merged c.args.pass.now c.flush_and_settle.new.pass first.pass;
      shelf = first.shelf;
      same = first.items.same;
      freed = first.items.freed;
      counts = first.items.counts;
      misses = first.items.misses;
    }

pub returns-in_err-done-clause-kept : goal.returns-in_err-done-clause-kept
returns-in_err-done-clause-kept g c =
    let first = c.flush_and_settle.ensures.kept in
    record {
      notes = then_in c.args.clock.now g.H.Host.merged c.args.pass.now c.flush_and_settle.new.pass c.give_back.new.pass first.pass c.give_back.ensures.kept;
      shelf = first.shelf;
      same = first.items.same;
      freed = first.items.freed;
      counts = first.items.counts;
      misses = first.items.misses;
    }

pub returns-clause-kept : goal.returns-clause-kept
returns-clause-kept g c =
    let first = c.flush_and_settle.ensures.kept in
    let given = c.give_cached-given.ensures in
    let later = given.kept in
    record {
      notes = then_in c.args.clock.now g.H.Host.merged c.args.pass.now c.flush_and_settle.new.pass c.give_back.new.pass first.pass c.give_back.ensures.kept;
      shelf = record {
        seat = given.seat;
        flushes =
            still_flushed _ (seat_domain c.args.seat.now) g.H.Host.copied _ (shelf_of c.flush_and_settle.new.seat) (shelf_of c.give_cached-given.new.seat) _ (sent_of c.flush_and_settle.new.seat) (sent_of c.give_cached-given.new.seat) _ (ap shelf_in later.rack)
            (ap (λ (v : Vec _ _). pushed_by v.items) later.ports) first.shelf.flushes;
        spares = ap spares_in later.rack ∙ first.shelf.spares;
      };
      same = (later.same.0 ∙ first.items.same.0, later.same.1 ∙ first.items.same.1);
      freed = later.freed ∙ first.items.freed;
      counts = later.counts ∙ first.items.counts;
      misses = later.misses ∙ first.items.misses;
    }

pub returns-clause-drains : goal.returns-clause-drains
returns-clause-drains g c =
    let first = c.in_ok-flush_and_settle.ensures.done in
    let flushed = c.flush_and_settle.ensures.kept in
    let gives = c.in_ok-done.ensures.gives in
    let given = c.give_cached-given.ensures in
    let cached = still_cached c.args.seat.now c.flush_and_settle.new.seat flushed.items.top flushed.items.plain in
    record {
      first = record { settled = first.settled; flushed = ap shelf_in given.kept.rack ∙ first.flushed };
      takes = record {
        told = gives.takes.told ∙ ap (λ part. fold g.H.Host.merged part (flat_map notes_in (takes_of c.in_ok-done.done))) flushed.pass.host;
        from = gives.takes.from;
        own = gives.takes.own;
        given = gives.takes.given;
      };
      given_own = subst (GivesEach c.args.zone.now) cached given.given;
      no_usable = given.no_usable;
      no_cross = given.no_cross;
      items =
          counted_sum (sum_by items_in (takes_of c.in_ok-done.done)) (cached_in c.args.seat.now) c.in_ok-done.done.items c.give_cached-given.result c.saturating_add.result gives.items
          (given.count ∙ ap counted cached) c.saturating_add.ensures;
      slabs = record { few = c.free_slabs.ensures.few; gave_up = c.free_slabs.ensures.freed };
    }

pub returns-in_err-flush_and_settle-clause-stopped : goal.returns-in_err-flush_and_settle-clause-stopped
returns-in_err-flush_and_settle-clause-stopped g c =
    let stopped = c.in_err-flush_and_settle.ensures.stopped in
    let first = c.flush_and_settle.ensures.kept in
    let stops : SeatDrainStops c.args.zone.now g.H.Host.merged g.H.Host.copied (view c.args.pass.now).host (view c.flush_and_settle.new.pass).host c.args.seat.now c.flush_and_settle.new.seat = record {
      stops = record { stay = stopped.stay; stopped = record { how = inl (stopped.stopped, first.pass.host) } };
      top = first.items.top;
      plain = first.items.plain;
    } in
    at_err _ stops

pub returns-in_err-done-clause-stopped : goal.returns-in_err-done-clause-stopped
returns-in_err-done-clause-stopped g c =
    let zone = c.args.zone.now in
    let merged = g.H.Host.merged in
    let was = (view c.args.pass.now).host in
    let mid = (view c.flush_and_settle.new.pass).host in
    let is = (view c.give_back.new.pass).host in
    let first = c.in_ok-flush_and_settle.ensures.done in
    let flushed = c.flush_and_settle.ensures.kept in
    let stops : SeatDrainStops zone merged g.H.Host.copied was is c.args.seat.now c.flush_and_settle.new.seat = record {
      stops = record {
        stay = none_stays (shelf_of c.args.seat.now) (shelf_of c.flush_and_settle.new.seat) first.flushed;
        stopped = record { how = inr (first.settled, stops_from zone All' merged was mid is flushed.pass.host c.in_err-done.ensures.stopped) };
      };
      top = flushed.items.top;
      plain = flushed.items.plain;
    } in
    at_err _ stops
