use Rattle.std.proofs.Common.{inl, inr, subst}
use Rattle.std.proofs.lemmas.Result.{IfOk-weaker}
use Rattle.smr_clock.specs.Belongs.{view}
use Rattle.uma_seat.specs.Seat.{shelf_of}
use Rattle.uma_reclaim.specs.declared.reclaim.Extent.TheVariants.{Unused}
use Rattle.uma_reclaim.specs.declared.reclaim.Reclaimed.{Reclaimed}
use Rattle.uma_reclaim.specs.Reclaimed.{GivesItemsOnly, StopsTaking, Trims, TrimStops}
use Rattle.uma_reclaim.proofs.Passes.{none_in, then_in}
use Rattle.uma_reclaim.proofs.Shelves.{none_stays, at_err, then_err}
use Rattle.uma_reclaim.proofs.Turns.{stops_from}
use Rattle.uma_reclaim.proofs.trimming.trim.Goals as goal

pub returns-in_err-flush_and_settle-clause-kept : goal.returns-in_err-flush_and_settle-clause-kept
returns-in_err-flush_and_settle-clause-kept g c =
    let first = c.flush_and_settle.ensures.kept in
    record {
      notes = none_in c.args.clock.now g.H.Host.merged c.args.pass.now c.flush_and_settle.new.pass first.pass;
      shelf = first.shelf;
      items = first.items;
    }

pub returns-clause-kept : goal.returns-clause-kept
returns-clause-kept g c =
    let first = c.flush_and_settle.ensures.kept in
    record {
      notes = then_in c.args.clock.now g.H.Host.merged c.args.pass.now c.flush_and_settle.new.pass c.give_back.new.pass first.pass c.give_back.ensures.kept;
      shelf = first.shelf;
      items = first.items;
    }

pub returns-clause-trims : goal.returns-clause-trims
returns-clause-trims g c =
    let zone = c.args.zone.now in
    let merged = g.H.Host.merged in
    let was = (view c.args.pass.now).host in
    let mid = (view c.flush_and_settle.new.pass).host in
    let is = (view c.give_back.new.pass).host in
    IfOk-weaker c.give_back.result (λ (done : Reclaimed _ _ _ _ _). GivesItemsOnly zone Unused merged mid is done) (λ (done : Reclaimed _ _ _ _ _). Trims zone merged g.H.Host.copied was is c.flush_and_settle.new.seat done)
    (λ done gives. record { first = c.in_ok-flush_and_settle.ensures.done; gives = subst (λ part. GivesItemsOnly zone Unused merged part is done) c.flush_and_settle.ensures.kept.pass.host gives }) c.give_back.ensures.gives

pub returns-in_err-flush_and_settle-clause-stopped : goal.returns-in_err-flush_and_settle-clause-stopped
returns-in_err-flush_and_settle-clause-stopped g c =
    let stopped = c.in_err-flush_and_settle.ensures.stopped in
    let stops : TrimStops c.args.zone.now g.H.Host.merged g.H.Host.copied (view c.args.pass.now).host (view c.flush_and_settle.new.pass).host c.args.seat.now c.flush_and_settle.new.seat =
    record { stay = stopped.stay; stopped = record { how = inl (stopped.stopped, c.flush_and_settle.ensures.kept.pass.host) } } in
    at_err _ stops

pub returns-clause-stopped : goal.returns-clause-stopped
returns-clause-stopped g c =
    let zone = c.args.zone.now in
    let merged = g.H.Host.merged in
    let was = (view c.args.pass.now).host in
    let mid = (view c.flush_and_settle.new.pass).host in
    let is = (view c.give_back.new.pass).host in
    let first = c.in_ok-flush_and_settle.ensures.done in
    let so : StopsTaking zone Unused merged mid is → TrimStops zone merged g.H.Host.copied was is c.args.seat.now c.flush_and_settle.new.seat =
    λ stops. record {
      stay = none_stays (shelf_of c.args.seat.now) (shelf_of c.flush_and_settle.new.seat) first.flushed;
      stopped = record { how = inr (first.settled, stops_from zone Unused merged was mid is c.flush_and_settle.ensures.kept.pass.host stops) };
    } in
    then_err c.give_back.result so c.give_back.ensures.stopped
