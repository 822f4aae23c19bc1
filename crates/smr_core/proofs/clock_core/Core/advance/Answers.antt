-- Each step but the first is sure, and together they are the turn.
use Rattle.std.proofs.Common.{rules}
use Rattle.smr_core.proofs.TurnLemmas.{advance_load-sure, advance_swap-sure}
use Rattle.smr_core.proofs.clock_core.Core.advance.Goals as goal

pub take-written-requires : goal.take-written-requires
take-written-requires c = advance_load-sure c.args.self.now c.args.seat c.in_ok-read.read c.apply.new.self c.in_ok-read.ensures.step.stepped

pub take-swapped-requires : goal.take-swapped-requires
take-swapped-requires c =
    advance_swap-sure c.apply.new.self c.args.seat c.take-written.result c.take-written.new.self c.take-written.ensures.stepped (search rules)
