use Rattle.replay_worker.proofs.Moving.{takes_at}
use Rattle.replay_worker.proofs.giving.take_from.Goals as goal

pub returns : goal.returns
returns g c = takes_at c.args.workers.now c.args.number c.args.slot c.index-workers-number.result c.take.result c.take.new.self c.requires c.take.ensures.taken c.take.ensures.left
