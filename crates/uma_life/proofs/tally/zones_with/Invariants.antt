use Rattle.std.proofs.Common.{◌≡◌, ◌<◌, ℕ, length, get_or}
use Rattle.uma_life.specs.Life.{no_counts}
use Rattle.uma_life.specs.Sum.{zone_sums, zone_sums_with, AreCounts}
use Rattle.uma_life.proofs.tally.zones_with.Given as goal

abbrev pub invariant-loop-zone : goal.invariant-loop-zone
invariant-loop-zone l = record {
  eight : length l.more ≡ 8;
  sums : (k : ℕ) → k < l.zone → zone_sums l.more k ≡ zone_sums_with (zone_sums l.sums k) (get_or l.counts k no_counts);
  counts : (k : ℕ) → k < l.zone → AreCounts (get_or l.counts k no_counts);
}
