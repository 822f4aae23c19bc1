use Rattle.replay_rounds.proofs.Adding.{AddedTo}
use Rattle.replay_rounds.proofs.census.with_zones.Given as goal

-- the zones before this place were added
abbrev pub invariant-loop-number : goal.invariant-loop-number
invariant-loop-number l = AddedTo l.number l.place l.lines l.sums l.fn.tally l.all
