use Rattle.std.proofs.Common.{take}
use Rattle.replay_rounds.specs.Lending.{KeepsWorkers}
use Rattle.replay_rounds.specs.Taking.{TakesKegs}
use Rattle.replay_rounds.proofs.totals.take_kegs.Given as goal

-- the kegs of the lines before this place were taken, and the workers are as before
abbrev pub invariant-loop-place : goal.invariant-loop-place
invariant-loop-place g l = record {
  keeps : KeepsWorkers l.fn.workers l.workers;
  kegs : TakesKegs l.fn.head l.fn.zones l.fn.workers l.fn.sums (take l.place l.lines) l.kegs.censuses.items l.kegs.tallies.items;
}
