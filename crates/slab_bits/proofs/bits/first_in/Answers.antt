use Rattle.std.proofs.Common.{◌<◌, ◌^◌, get_or, arith}
use Rattle.slab_bits.proofs.Least.{IsLeastFrom-word, HasNoneFrom-clear}
use Rattle.slab_bits.proofs.bits.first_in.Goals as goal

pub returns-then-word-ne0-clause-least : goal.returns-then-word-ne0-clause-least
returns-then-word-ne0-clause-least c =
    let words = c.args.words.now in
    let index = c.loop-index.index in
    let some : 0 < get_or words index 0 = omega arith in
    let fit : get_or words index 0 < 2 ^ 64 = (c.type_inv.words index).fits in
    IsLeastFrom-word words c.args.start index c.loop-index.invariant (omega arith) some fit

pub returns-clause-none : goal.returns-clause-none
returns-clause-none c = HasNoneFrom-clear c.args.words.now c.args.start c.requires (λ k above below. c.loop-index.invariant k above (omega arith))
