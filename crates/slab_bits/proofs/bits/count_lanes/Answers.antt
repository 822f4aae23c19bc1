use Rattle.std.proofs.Common.{◌≡◌, ℕ, ◌+◌, ◌*◌, ◌/◌, ◌<◌, ◌≤◌, ◌%◌, ◌^◌, List, [], length, take, drop, get_or, sum_by, arith, refl, ap, ◌∙◌}
use Rattle.std.specs.Int.RustNames.{count_ones}
use lib.Lanes.{sum_l, fold_l}
use Rattle.std.proofs.lemmas.List.{drop_all}
use Rattle.slab_bits.proofs.WrappedSums.{wrapped, fold_wrapped, chunk_at, lanes_step, lanes_long, sum_of-ones}
use Rattle.slab_bits.proofs.bits.count_lanes.Goals as goal

pub loop-lanes-preserved : goal.loop-lanes-preserved
loop-lanes-preserved c =
    let i = c.loop-lanes.lanes-index in
    let words = c.args.words.now in
    let front_len = c.as_chunks.ensures.front_len in
    let within : i < length words / 8 = omega (arith, front_len) in
    let room : 8 * (i + 1) ≤ length words = omega arith in
    let chunk : get_or c.as_chunks.result.0.now i [] ≡ take 8 (drop (8 * i) words) =
    ap (λ (xs : List (List ℕ)). get_or xs i []) c.as_chunks.ensures.front ∙ chunk_at 8 (length words / 8) i words [] within in
    record {
      lanes = rw chunk (lanes_long c.loop-lanes.counts words i c.loop-lanes.invariant.lanes room);
      counted = rw chunk (lanes_step c.loop-lanes.counts words i (sum_by count_ones words % 2 ^ 64) c.loop-lanes.invariant.lanes room c.loop-lanes.invariant.counted);
    }

pub loop-word-init : goal.loop-word-init
loop-word-init c =
    let i = c.loop-lanes.lanes-index in
    let words = c.args.words.now in
    let counts = c.loop-lanes.counts in
    let front_len = c.as_chunks.ensures.front_len in
    let all : 8 * i ≡ length words / 8 * 8 = omega (arith, front_len) in
    let rest : c.as_chunks.result.1.now ≡ drop (8 * i) words = c.as_chunks.ensures.back ∙ rw all refl in
    let sum : fold_l wrapped 0 counts ≡ (0 + sum_l counts) % 2 ^ 64 = fold_wrapped 0 counts (omega arith) in
    let counted = c.loop-lanes.invariant.counted in
    let done : (fold_l wrapped 0 counts + sum_by count_ones c.as_chunks.result.1.now) % 2 ^ 64 ≡ sum_by count_ones words % 2 ^ 64 = rw (rest, sum) (omega arith) in
    done

pub returns-clause-plain : goal.returns-clause-plain
returns-clause-plain c few =
    let rest = c.as_chunks.result.1.now in
    let counted = c.loop-word.invariant in
    let few_bits = sum_of-ones c.args.words.now c.type_inv.words in
    let none : sum_by count_ones (drop c.loop-word.word-index rest) ≡ 0 = ap (sum_by count_ones) (drop_all c.loop-word.word-index rest c.loop-word-test.false) in
    omega (arith, c.loop-word.auto.count-fits)
