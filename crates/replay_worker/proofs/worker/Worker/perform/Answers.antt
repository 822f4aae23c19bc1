use Rattle.replay_worker.proofs.AtPlace.{fits_kept, enter_holds}
use Rattle.replay_worker.proofs.worker.Worker.perform.Goals as goal

pub returns-in-Enter-clause-fits : goal.returns-in-Enter-clause-fits
returns-in-Enter-clause-fits g c =
    fits_kept c.args.zones.now c.args.clock.now c.args.self.now c.enter.new.self c.requires.able.fits c.enter.ensures.pass (enter_holds c.args.self.now c.enter.new.self c.enter.ensures.enters)

pub returns-in-Exit-clause-fits : goal.returns-in-Exit-clause-fits
returns-in-Exit-clause-fits g c = fits_kept c.args.zones.now c.args.clock.now c.args.self.now c.exit.new.self c.requires.able.fits c.exit.ensures.pass c.exit.ensures.leaves.holds
