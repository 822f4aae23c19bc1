use Rattle.std.proofs.Common.{◌≡◌, refl, ap, ◌∙◌}
use Rattle.std.proofs.lemmas.Result.{on_ok_weaker}
use Rattle.std.specs.Vec.{with_item}
use Rattle.replay_worker.specs.declared.worker.Worker.{Worker}
use Rattle.replay_worker.specs.Slots.{filled}
use Rattle.replay_worker.proofs.AtPlace.{can_call_at, fits_alloc, allocs_at}
use Rattle.replay_worker.proofs.worker.Worker.alloc.Goals as goal

pub request-requires-clause-can : goal.request-requires-clause-can
request-requires-clause-can g c =
    can_call_at c.args.zones.now c.args.clock.now c.args.self.now c.args.zone c.index-zones-place.result c.index_mut-seat.result.now c.requires.can.clock c.requires.can.fits c.requires.zone c.index-zones-place.is c.index_mut-seat.ensures.value

pub returns-clause-fits : goal.returns-clause-fits
returns-clause-fits g c =
    let old : Worker _ _ _ = c.args.self.now in
    let new : Worker _ _ _ = record { pass = c.request.new.pass; seats = with_item old.seats c.args.zone c.request.new.seat; slots = c.fill.new.slots; entered = old.entered; late = old.late } in
    on_ok_weaker c.fill.result
    (λ (slots : c.fill.new.slots ≡ filled old.slots c.args.slot c.held_of.result).
    fits_alloc c.args.zones.now c.args.clock.now old new c.args.zone c.args.slot c.index-zones-place.result c.index_mut-seat.result.now c.request.new.seat c.args.ask c.in_ok-got.got
    c.requires.can.fits c.requires.zone c.index-zones-place.is c.index_mut-seat.ensures.value c.request.ensures.stays.seat c.request.ensures.stays.pass.own c.in_ok-got.ensures.requests.ends
    refl (slots ∙ ap (filled old.slots c.args.slot) c.held_of.ensures))
    c.fill.ensures

pub returns-clause-allocs : goal.returns-clause-allocs
returns-clause-allocs g c =
    let old : Worker _ _ _ = c.args.self.now in
    let new : Worker _ _ _ = record { pass = c.request.new.pass; seats = with_item old.seats c.args.zone c.request.new.seat; slots = c.fill.new.slots; entered = old.entered; late = old.late } in
    on_ok_weaker c.fill.result
    (λ (slots : c.fill.new.slots ≡ filled old.slots c.args.slot c.held_of.result).
    allocs_at c.args.zones.now c.args.clock.now old new c.args.zone c.args.slot c.index-zones-place.result c.index_mut-seat.result.now c.request.new.seat c.args.ask c.in_ok-got.got
    c.requires.can.fits c.requires.zone c.index-zones-place.is c.index_mut-seat.ensures.value c.in_ok-got.ensures.requests c.in_ok-got.ensures.reaches
    refl (slots ∙ ap (filled old.slots c.args.slot) c.held_of.ensures)
    (record { phase = c.request.ensures.stays.pass.phase; seen = c.request.ensures.stays.pass.seen; entered = refl; late = refl }))
    c.fill.ensures
