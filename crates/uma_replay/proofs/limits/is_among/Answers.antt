use Rattle.uma_replay.proofs.LimitLines.{among}
use Rattle.uma_replay.proofs.limits.is_among.Goals as goal

pub returns : goal.returns
returns c = among c.args.limits.now c.args.limit c.contains.result c.contains.ensures.cases
