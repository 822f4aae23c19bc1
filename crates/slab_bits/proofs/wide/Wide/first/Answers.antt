use Rattle.std.proofs.Common.{◌<◌, ◌^◌, arith}
use Rattle.std.specs.Int.{w64, trailing_zeros}
use Rattle.slab_bits.proofs.Summed.{HasNoneFrom-summary, IsLeastFrom-summary, first_word, index_within}
use Rattle.slab_bits.proofs.wide.Wide.first.Goals as goal

pub returns-then-self-eq0-clause-none : goal.returns-then-self-eq0-clause-none
returns-then-self-eq0-clause-none c =
    rw (← c.self.view_is) (HasNoneFrom-summary c.self.inside.summary c.self.inside.words c.self.invariant c.if-self-eq0.true)

pub bounds-self-inside-index : goal.bounds-self-inside-index
bounds-self-inside-index c =
    let summary = c.self.inside.summary in
    let some : 0 < summary = omega arith in
    let fit : summary < 2 ^ 64 = omega arith in
    index_within summary c.self.inside.words c.self.invariant (trailing_zeros w64 summary) (first_word summary c.self.inside.words c.self.invariant some fit)

pub returns-clause-least : goal.returns-clause-least
returns-clause-least c =
    let summary = c.self.inside.summary in
    let some : 0 < summary = omega arith in
    let fit : summary < 2 ^ 64 = omega arith in
    rw (← c.self.view_is) (IsLeastFrom-summary summary c.self.inside.words c.self.invariant some fit)
