use Rattle.std.proofs.Common.{◌≤◌, length, sum_by, arith, sym, ap, ◌∙◌}
use Rattle.std.specs.Int.RustNames.{count_ones}
use Rattle.std.proofs.lemmas.List.{take_all}
use Rattle.slab_bits.proofs.Counts.{count_of-words}
use Rattle.slab_bits.proofs.Words.{length-places_of}
use Rattle.slab_bits.proofs.bits.Bits.count.Goals as goal

pub returns-clause-count : goal.returns-clause-count
returns-clause-count c =
    let words = c.self.inside.words in
    let all : length words ≤ c.loop-word.word-index = omega arith in
    rw (← c.self.view_is) (c.loop-word.invariant.0 ∙ ap (sum_by count_ones) (take_all c.loop-word.word-index words all) ∙ sym (count_of-words words c.self.invariant.fit))

pub returns-clause-places : goal.returns-clause-places
returns-clause-places c =
    let len = length-places_of c.self.inside.words in
    let four = c.self.invariant.four in
    rw (← c.self.view_is) (omega arith)
