use Rattle.replay_worker.specs.declared.worker.Worker.{Worker}
use Rattle.replay_worker.proofs.NewSeats.{fits_new}
use Rattle.replay_worker.proofs.worker.Worker.new.Goals as goal

pub returns-clause-fits : goal.returns-clause-fits
returns-clause-fits g c =
    let w : Worker _ _ _ = record { pass = c.args.pass; seats = c.in_ok-seats.seats; slots = c.in_ok-with_room.field-0; entered = 0; late = 0 } in
    fits_new c.args.zones.now c.args.clock.now c.args.domain w c.in_ok-seats.ensures c.requires.pass c.in_ok-with_room.ensures
