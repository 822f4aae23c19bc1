use Rattle.std.proofs.Common.{◌≤◌, ◌<◌, length, get_or, sum_by, arith, sym, ap, ◌∙◌}
use Rattle.std.specs.Int.RustNames.{count_ones}
use Rattle.std.proofs.lemmas.List.{take_all}
use Rattle.std.proofs.lemmas.Nat.{ones-le}
use Rattle.std.proofs.lemmas.List.Sums.{sum_by_more}
use Rattle.slab_bits.proofs.Counts.{count_of-words}
use Rattle.slab_bits.proofs.Words.{length-places_of}
use Rattle.slab_bits.proofs.wide.Wide.count.Goals as goal

pub loop-word-preserved : goal.loop-word-preserved
loop-word-preserved c =
    let words = c.self.inside.words in
    let index = c.loop-word.word-index in
    let within : index < length words = omega (arith, c.self.told) in
    let so_far = c.loop-word.invariant.0 in
    let few = ones-le 64 (get_or words index 0) (c.self.invariant.fit index) in
    (omega (arith, so_far, sum_by_more count_ones words index 0 within), omega (arith, c.loop-word.invariant.1, few))

pub returns-clause-count : goal.returns-clause-count
returns-clause-count c =
    let words = c.self.inside.words in
    let all : length words ≤ c.loop-word.word-index = omega arith in
    rw (← c.self.view_is) (c.loop-word.invariant.0 ∙ ap (sum_by count_ones) (take_all c.loop-word.word-index words all) ∙ sym (count_of-words words c.self.invariant.fit))

pub returns-clause-numbers : goal.returns-clause-numbers
returns-clause-numbers c =
    let len = length-places_of c.self.inside.words in
    let sixteen = c.self.invariant.sixteen in
    rw (← c.self.view_is) (omega arith)
