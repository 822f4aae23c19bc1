use Rattle.std.proofs.Common.{◌≡◌, map, take}
use Rattle.replay_rounds.proofs.totals.all_deferred.Given as goal

abbrev pub invariant-loop-of_zone : goal.invariant-loop-of_zone
invariant-loop-of_zone l = l.all.items ≡ map (λ s. s.deferred) (take l.of_zone-index l.sums)
