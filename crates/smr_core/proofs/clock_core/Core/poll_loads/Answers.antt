-- The second step is sure where the first saw a hand.
use Rattle.std.proofs.Common.{rules}
use Rattle.smr_core.proofs.TurnLemmas.{present-sure}
use Rattle.smr_core.proofs.clock_core.Core.poll_loads.Goals as goal

pub take-found-requires : goal.take-found-requires
take-found-requires c = present-sure c.args.self.now c.args.seat c.in_ok-loaded.loaded c.apply.new.self c.in_ok-loaded.ensures.step.stepped (search rules)
