use Rattle.uma.proofs.Ready.{all_ready}
use Rattle.uma.proofs.pool.new_clock.Goals as goal

pub returns-in-Ok-clause-ready : goal.returns-in-Ok-clause-ready
returns-in-Ok-clause-ready c = all_ready c.in-Ok.made.0 (λ part. part) tt c.in-Ok.made.1.items c.in-Ok.ensures.workers
