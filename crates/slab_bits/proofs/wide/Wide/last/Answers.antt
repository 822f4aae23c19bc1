use Rattle.std.proofs.Common.{◌<◌, ◌-◌, ◌^◌, get_or, arith}
use Rattle.std.specs.Int.{w64, leading_zeros}
use Rattle.slab_bits.proofs.Summed.{HasNoneFrom-summary, IsGreatest-summary, last_word, index_within, few_leading}
use Rattle.slab_bits.proofs.wide.Wide.last.Goals as goal

pub returns-then-self-eq0-clause-none : goal.returns-then-self-eq0-clause-none
returns-then-self-eq0-clause-none c =
    rw (← c.self.view_is) (HasNoneFrom-summary c.self.inside.summary c.self.inside.words c.self.invariant c.if-self-eq0.true)

pub bounds-self-inside-index : goal.bounds-self-inside-index
bounds-self-inside-index c =
    let summary = c.self.inside.summary in
    let some : 0 < summary = omega arith in
    let fit : summary < 2 ^ 64 = omega arith in
    index_within summary c.self.inside.words c.self.invariant (63 - leading_zeros w64 summary) (last_word summary c.self.inside.words c.self.invariant some fit)

pub overflow_sub-result-2 : goal.overflow_sub-result-2
overflow_sub-result-2 c =
    let summary = c.self.inside.summary in
    let some : 0 < summary = omega arith in
    let fit : summary < 2 ^ 64 = omega arith in
    let index = 63 - leading_zeros w64 summary in
    let last = last_word summary c.self.inside.words c.self.invariant some fit in
    let few = few_leading (get_or c.self.inside.words index 0) last (c.self.invariant.fit index) in
    omega (arith, few)

pub returns-clause-greatest : goal.returns-clause-greatest
returns-clause-greatest c =
    let summary = c.self.inside.summary in
    let some : 0 < summary = omega arith in
    let fit : summary < 2 ^ 64 = omega arith in
    rw (← c.self.view_is) (IsGreatest-summary summary c.self.inside.words c.self.invariant some fit)
