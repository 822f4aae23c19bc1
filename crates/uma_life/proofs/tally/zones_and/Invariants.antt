use Rattle.std.proofs.Common.{◌≡◌, ◌<◌, ℕ, length}
use Rattle.uma_life.specs.Sum.{zone_sums, zone_sums_and}
use Rattle.uma_life.proofs.tally.zones_and.Given as goal

abbrev pub invariant-loop-zone : goal.invariant-loop-zone
invariant-loop-zone l = record {
  eight : length l.more ≡ 8;
  sums : (k : ℕ) → k < l.zone → zone_sums l.more k ≡ zone_sums_and (zone_sums l.sums k) (zone_sums l.others k);
}
