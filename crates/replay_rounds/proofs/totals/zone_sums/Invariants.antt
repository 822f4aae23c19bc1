use Rattle.replay_rounds.specs.Summing.{SumsOfFirst}
use Rattle.replay_rounds.proofs.totals.zone_sums.Given as goal

-- the domains and the seats of the workers before this one were added
abbrev pub invariant-loop-worker : goal.invariant-loop-worker
invariant-loop-worker g l = SumsOfFirst l.worker-index l.fn.zone l.place l.workers l.sums
