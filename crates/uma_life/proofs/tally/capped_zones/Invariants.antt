use Rattle.std.proofs.Common.{◌≡◌, ◌<◌, ℕ, length, get_or}
use Rattle.uma_life.specs.Life.{no_counts}
use Rattle.uma_life.specs.Sum.{zone_sums, capped_zone}
use Rattle.uma_life.proofs.tally.capped_zones.Given as goal

abbrev pub invariant-loop-zone : goal.invariant-loop-zone
invariant-loop-zone l = record {
  eight : length l.zones ≡ 8;
  capped : (k : ℕ) → k < l.zone → get_or l.zones k no_counts ≡ capped_zone (zone_sums l.sums k);
}
