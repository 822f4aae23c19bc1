use Rattle.std.proofs.Common.{◌≡◌, ◌+◌, ◌*◌, ◌%◌, ◌^◌, length, drop, sum_by}
use Rattle.std.specs.Int.RustNames.{count_ones}
use lib.Lanes.{sum_l}
use Rattle.slab_bits.proofs.bits.count_lanes.Given as goal

abbrev pub invariant-loop-lanes : goal.invariant-loop-lanes
invariant-loop-lanes l = record {
  lanes : length l.counts ≡ 8;
  counted : (sum_l l.counts + sum_by count_ones (drop (8 * l.lanes-index) l.words)) % 2 ^ 64 ≡ sum_by count_ones l.words % 2 ^ 64;
}

abbrev pub invariant-loop-word : goal.invariant-loop-word
invariant-loop-word l = (l.count + sum_by count_ones (drop l.word-index l.rest)) % 2 ^ 64 ≡ sum_by count_ones l.words % 2 ^ 64
