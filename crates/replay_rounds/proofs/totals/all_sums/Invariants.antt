use Rattle.replay_rounds.proofs.Collected.{SumsSoFar}
use Rattle.replay_rounds.proofs.totals.all_sums.Given as goal

-- the zones before this place were summed up
abbrev pub invariant-loop-place : goal.invariant-loop-place
invariant-loop-place g l = SumsSoFar l.zones l.workers l.place l.all.items
