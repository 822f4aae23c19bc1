use Rattle.std.proofs.Common.{◌≡◌, ◌*◌, ◌≤◌, take, sum_by}
use Rattle.std.specs.Int.RustNames.{count_ones}
use Rattle.slab_bits.proofs.wide.Wide.count.Given as goal

abbrev pub invariant-loop-word : goal.invariant-loop-word
invariant-loop-word l = (l.count ≡ sum_by count_ones (take l.word-index l.word-items)) × (l.count ≤ 64 * l.word-index)
