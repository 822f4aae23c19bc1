use Rattle.replay_rounds.proofs.Beginners.{beginner_is}
use Rattle.replay_rounds.proofs.setting.new_worker.Goals as goal

pub returns : goal.returns
returns g c = beginner_is c.new.result c.args.zones.now c.args.clock.now c.args.domain c.args.pass c.new.ensures.fits c.new.ensures.new c.requires.pass
