use Rattle.std.proofs.Common.{◌≡◌, ◌<◌, Some, refl, sym, ◌∙◌, length}
use Rattle.std.proofs.lemmas.Result.{on_ok_weaker}
use Rattle.std.specs.Vec.{with_item}
use Rattle.smr_clock.specs.Belongs.{view}
use Rattle.replay_worker.specs.declared.worker.Worker.{Worker}
use Rattle.replay_worker.specs.Calling.{StaysOf}
use Rattle.replay_worker.specs.Requests.{IsGivenBack}
use Rattle.replay_worker.specs.Slots.{slot_at}
use Rattle.replay_worker.proofs.AtPlace.{can_call_at, room_at, fits_free, fits_none, held_below, home_at, frees_at, frees_none}
use Rattle.replay_worker.proofs.Ends.{both_ok}
use Rattle.replay_worker.proofs.Numbers.{below_as}
use Rattle.replay_worker.proofs.worker.Worker.free.Goals as goal

pub returns-in_default-clause-fits : goal.returns-in_default-clause-fits
returns-in_default-clause-fits g c = fits_none c.args.zones.now c.args.clock.now c.args.self.now c.args.slot c.take.new.self c.requires.fits c.take.ensures.left

pub returns-in_default-clause-frees : goal.returns-in_default-clause-frees
returns-in_default-clause-frees g c = frees_none c.args.zones.now c.args.self.now c.args.slot c.take.new.self (sym c.take.ensures.taken ∙ c.in_default.is) c.take.ensures.left

pub index_mut-seat-requires : goal.index_mut-seat-requires
index_mut-seat-requires g c =
    let it = c.in-Some.held in
    let holds : slot_at c.args.self.now.slots c.args.slot ≡ Some it = sym c.take.ensures.taken ∙ c.in-Some.is in
    let below : it.zone < length c.args.zones.now = held_below c.args.zones.now it (c.requires.fits.slots c.args.slot it holds) in
    below_as (below_as below c.requires.fits.seats.count) c.args.self.now.seats.ok.0

pub bounds-zones-place : goal.bounds-zones-place
bounds-zones-place g c =
    let it = c.in-Some.held in
    let holds : slot_at c.args.self.now.slots c.args.slot ≡ Some it = sym c.take.ensures.taken ∙ c.in-Some.is in
    held_below c.args.zones.now it (c.requires.fits.slots c.args.slot it holds)

pub give_back-requires : goal.give_back-requires
give_back-requires g c =
    let it = c.in-Some.held in
    let holds : slot_at c.args.self.now.slots c.args.slot ≡ Some it = sym c.take.ensures.taken ∙ c.in-Some.is in
    let below : it.zone < length c.args.zones.now = held_below c.args.zones.now it (c.requires.fits.slots c.args.slot it holds) in
    record {
      can = can_call_at c.args.zones.now c.args.clock.now c.args.self.now it.zone c.index-zones-place.result c.index_mut-seat.result.now c.requires.clock c.requires.fits below c.index-zones-place.is c.index_mut-seat.ensures.value;
      room = room_at c.args.self.now.seats.items it.zone c.index_mut-seat.result.now c.requires.rooms.ledgers (below_as below c.requires.fits.seats.count) c.index_mut-seat.ensures.value;
      home = home_at c.args.zones.now it c.index-zones-place.result (c.requires.fits.slots c.args.slot it holds) c.index-zones-place.is;
    }

pub returns-clause-fits : goal.returns-clause-fits
returns-clause-fits g c =
    let old : Worker _ _ _ = c.args.self.now in
    let it = c.in-Some.held in
    let new : Worker _ _ _ = record { pass = c.give_back.new.pass; seats = with_item old.seats it.zone c.give_back.new.seat; slots = c.take.new.self; entered = old.entered; late = old.late } in
    let holds : slot_at old.slots c.args.slot ≡ Some it = sym c.take.ensures.taken ∙ c.in-Some.is in
    let below : it.zone < length c.args.zones.now = held_below c.args.zones.now it (c.requires.fits.slots c.args.slot it holds) in
    on_ok_weaker c.give_back.result
    (λ (stays : StaysOf c.index-zones-place.result c.args.clock.now old.pass c.give_back.new.pass c.give_back.new.seat).
    fits_free c.args.zones.now c.args.clock.now old new it.zone c.args.slot c.index-zones-place.result c.index_mut-seat.result.now c.give_back.new.seat
    c.requires.fits below c.index-zones-place.is c.index_mut-seat.ensures.value stays.seat stays.pass.own refl c.take.ensures.left)
    c.give_back.ensures.stays

pub returns-clause-frees : goal.returns-clause-frees
returns-clause-frees g c =
    let old : Worker _ _ _ = c.args.self.now in
    let it = c.in-Some.held in
    let new : Worker _ _ _ = record { pass = c.give_back.new.pass; seats = with_item old.seats it.zone c.give_back.new.seat; slots = c.take.new.self; entered = old.entered; late = old.late } in
    let holds : slot_at old.slots c.args.slot ≡ Some it = sym c.take.ensures.taken ∙ c.in-Some.is in
    both_ok c.give_back.result
    (λ (stays : StaysOf c.index-zones-place.result c.args.clock.now old.pass c.give_back.new.pass c.give_back.new.seat)
    (gives : IsGivenBack c.index-zones-place.result (view old.pass) c.index_mut-seat.result.now it.item c.give_back.new.seat (view c.give_back.new.pass)).
    frees_at c.args.zones.now c.args.clock.now old new c.args.slot it c.index-zones-place.result c.index_mut-seat.result.now c.give_back.new.seat
    c.requires.fits holds c.index-zones-place.is c.index_mut-seat.ensures.value gives refl c.take.ensures.left
    (record { phase = stays.pass.phase; seen = stays.pass.seen; entered = refl; late = refl }))
    c.give_back.ensures.stays c.give_back.ensures.gives_back
