use Rattle.std.proofs.Common.{refl}
use Rattle.std.proofs.lemmas.Result.{on_ok_weaker}
use Rattle.std.specs.Vec.{with_item}
use Rattle.smr_clock.specs.Belongs.{view}
use Rattle.replay_worker.specs.declared.worker.Worker.{Worker}
use Rattle.replay_worker.specs.Reclaims.{HasTrimmed}
use Rattle.replay_worker.proofs.AtPlace.{can_call_at, fits_reclaim, reclaims_at}
use Rattle.replay_worker.proofs.worker.Worker.trim.Goals as goal

pub trim-requires : goal.trim-requires
trim-requires g c =
    can_call_at c.args.zones.now c.args.clock.now c.args.self.now c.args.zone c.index-zones-place.result c.index_mut-seat.result.now c.requires.clock c.requires.fits c.requires.zone c.index-zones-place.is c.index_mut-seat.ensures.value

pub returns-clause-fits : goal.returns-clause-fits
returns-clause-fits g c =
    let old : Worker _ _ _ = c.args.self.now in
    let new : Worker _ _ _ = record { pass = c.trim.new.pass; seats = with_item old.seats c.args.zone c.trim.new.seat; slots = old.slots; entered = old.entered; late = old.late } in
    on_ok_weaker c.trim.result
    (λ (left : HasTrimmed c.index-zones-place.result (view c.args.self.now.pass) c.index_mut-seat.result.now c.trim.new.seat).
    fits_reclaim c.args.zones.now c.args.clock.now old new c.args.zone c.index-zones-place.result c.index_mut-seat.result.now c.trim.new.seat
    c.requires.fits c.requires.zone c.index-zones-place.is c.index_mut-seat.ensures.value c.trim.ensures.stays.seat c.trim.ensures.stays.pass.own refl refl)
    c.trim.ensures.trimmed

pub returns-clause-reclaims : goal.returns-clause-reclaims
returns-clause-reclaims g c =
    let old : Worker _ _ _ = c.args.self.now in
    let new : Worker _ _ _ = record { pass = c.trim.new.pass; seats = with_item old.seats c.args.zone c.trim.new.seat; slots = old.slots; entered = old.entered; late = old.late } in
    on_ok_weaker c.trim.result
    (λ (left : HasTrimmed c.index-zones-place.result (view c.args.self.now.pass) c.index_mut-seat.result.now c.trim.new.seat).
    reclaims_at c.args.zones.now c.args.clock.now HasTrimmed old new c.args.zone c.index-zones-place.result c.index_mut-seat.result.now c.trim.new.seat
    c.requires.fits c.requires.zone c.index-zones-place.is c.index_mut-seat.ensures.value left refl refl
    (record { phase = c.trim.ensures.stays.pass.phase; seen = c.trim.ensures.stays.pass.seen; entered = refl; late = refl }))
    c.trim.ensures.trimmed
