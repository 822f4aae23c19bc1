use Rattle.std.proofs.Common.{◌<◌, ℕ}
use Rattle.uma_life.specs.Sum.{zone_sums, IsBelow}
use Rattle.uma_life.proofs.tally.zones_are_below.Given as goal

abbrev pub invariant-loop-sums : goal.invariant-loop-sums
invariant-loop-sums l = (k : ℕ) → k < l.sums-index → IsBelow l.bound (zone_sums l.fn.zones k)
