use Rattle.umarun.proofs.MadeFew.{made_few}
use Rattle.umarun.proofs.bulk.replay_made.Goals as goal

pub play-requires-clause-few : goal.play-requires-clause-few
play-requires-clause-few g c κs within = made_few _ c.args.workers c.args.ops c.in_ok-trace.trace c.in_ok-trace.ensures.made c.requires.few_ops
