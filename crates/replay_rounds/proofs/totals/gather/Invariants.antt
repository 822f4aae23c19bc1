use Rattle.replay_rounds.specs.Clock.{Gathers}
use Rattle.replay_rounds.proofs.totals.gather.Given as goal

-- the workers before this one told the first what they knew
abbrev pub invariant-loop-number : goal.invariant-loop-number
invariant-loop-number g l = Gathers l.clock l.number l.fn.workers l.workers
