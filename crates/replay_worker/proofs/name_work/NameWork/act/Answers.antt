use Rattle.replay_worker.proofs.AtPlace.{fits_kept}
use Rattle.replay_worker.proofs.DoneLines.{looks_holds}
use Rattle.replay_worker.specs.NameLines.{line_state_there}
use Rattle.replay_worker.proofs.name_work.NameWork.act.Goals as goal

pub returns-in_ok-bind-in-Bind-clause-stays : goal.returns-in_ok-bind-in-Bind-clause-stays
returns-in_ok-bind-in-Bind-clause-stays g c = record {
  fits = fits_kept c.args.shared.now.zones.now c.args.shared.now.clock.now c.args.worker.now c.bind.new.worker c.requires.able.fits c.bind.ensures.stays.pass c.in_ok-bind-in-Bind.ensures.binds.holds;
  seat = c.bind.ensures.stays.seat;
}

pub returns-in_ok-unbind-in-Unbind-clause-stays : goal.returns-in_ok-unbind-in-Unbind-clause-stays
returns-in_ok-unbind-in-Unbind-clause-stays g c = record {
  fits = fits_kept c.args.shared.now.zones.now c.args.shared.now.clock.now c.args.worker.now c.unbind.new.worker c.requires.able.fits c.unbind.ensures.stays.pass c.in_ok-unbind-in-Unbind.ensures.unbinds.holds;
  seat = c.unbind.ensures.stays.seat;
}

pub returns-in-Look-clause-stays : goal.returns-in-Look-clause-stays
returns-in-Look-clause-stays g c = record {
  fits = fits_kept c.args.shared.now.zones.now c.args.shared.now.clock.now c.args.worker.now c.look.new.worker c.requires.able.fits c.look.ensures.stays.pass
      (looks_holds g.N.NameCalls c.args.shared.now.cache.now c.args.shared.now.zones.now c.in-Look.key (line_state_there c.args.worker.now c.args.self.now) (line_state_there c.look.new.worker c.look.new.self) c.look.ensures.looks);
  seat = c.look.ensures.stays.seat;
}
