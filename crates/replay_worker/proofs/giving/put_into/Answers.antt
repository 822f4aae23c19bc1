use Rattle.replay_worker.proofs.Moving.{puts_at}
use Rattle.replay_worker.proofs.giving.put_into.Goals as goal

pub returns : goal.returns
returns g c = puts_at c.put.result c.args.workers.now c.args.number c.args.slot c.index-workers-number.result c.args.held c.put.new.self c.requires c.put.ensures
