use Rattle.std.proofs.Common.{◌≡◌, ◌+◌, Bool, true, false, not, refl, ap, arith, vec_len}
use Rattle.vmem_arena.proofs.Keeping.{not_among, none_among, stands_at, end_of_part, end_low_left, spaced_of, freed_at, kept_give, spare_of, gives, bases_of_give, total_low}
use Rattle.vmem_arena.proofs.arena.Arena.give.Goals as goal

not_false : (b : Bool) → not b ≡ false → b ≡ true
not_false true h = refl
not_false false h = cc h

not_true : (b : Bool) → not b ≡ true → b ≡ false
not_true true h = cc h
not_true false h = refl

pub returns-in_default-clause-refused : goal.returns-in_default-clause-refused
returns-in_default-clause-refused c = rw (← c.self.view_is) (refl, none_among c.self.inside c.args.base c.in_default.ensures.none)

pub returns-then-not-range-clause-refused : goal.returns-then-not-range-clause-refused
returns-then-not-range-clause-refused c =
    rw (← c.self.view_is) (refl, not_among c.self.inside c.args.base c.in-Some.range c.self.invariant c.in-Some.ensures.some (not_true c.in-Some.range.taken c.if-not-range.true))

pub with_next-freed-requires-clause-ends : goal.with_next-freed-requires-clause-ends
with_next-freed-requires-clause-ends c = end_of_part c.self.inside c.in-Some.range c.self.invariant (stands_at c.self.inside c.args.base c.in-Some.range c.in-Some.ensures.some)

pub with_last-freed-requires-clause-low : goal.with_last-freed-requires-clause-low
with_last-freed-requires-clause-low c =
    let s = stands_at c.self.inside c.args.base c.in-Some.range c.in-Some.ensures.some in
    let taken = not_false c.in-Some.range.taken c.if-not-range.false in
    end_low_left c.self.inside c.in-Some.range c.self.invariant s (c.with_next-freed.ensures.joined s.before s.after s.is taken (spaced_of c.self.inside c.self.invariant) c.self.invariant.free)

pub put-requires : goal.put-requires
put-requires c =
    let s = stands_at c.self.inside c.args.base c.in-Some.range c.in-Some.ensures.some in
    let taken = not_false c.in-Some.range.taken c.if-not-range.false in
    let spare = spare_of c.self.inside c.in-Some.range c.self.invariant s taken in
    omega (arith, spare, c.with_next-freed.ensures.spares, c.with_last-freed.ensures.spares)

pub overflow_add-self : goal.overflow_add-self
overflow_add-self c =
    let s = stands_at c.self.inside c.args.base c.in-Some.range c.in-Some.ensures.some in
    let low = total_low c.self.inside c.self.invariant in
    let end = end_of_part c.self.inside c.in-Some.range c.self.invariant s in
    omega (arith, c.from.ensures)

pub invariant_of-self : goal.invariant_of-self
invariant_of-self c =
    let a = c.self.inside in
    let r = c.in-Some.range in
    let s = stands_at a c.args.base r c.in-Some.ensures.some in
    let taken = not_false r.taken c.if-not-range.false in
    let g = freed_at a r c.self.invariant s c.with_next-freed.new.by_base _ c.with_next-freed.result c.with_last-freed.new.by_base _ c.with_last-freed.result taken c.with_next-freed.ensures.joined c.with_last-freed.ensures.joined in
    let more = rw c.of.ensures at c.put.ensures.more in
    let spares : vec_len c.put.new.self.spares + 1 ≡ vec_len a.free.spares = omega (arith, c.put.ensures.spares, c.with_next-freed.ensures.spares, c.with_last-freed.ensures.spares) in
    kept_give a _ r s _ _ c.with_last-freed.result c.self.invariant taken g refl c.write.ensures more spares (ap (λ n. a.free_total + n) c.from.ensures)

pub returns-clause-ok : goal.returns-clause-ok
returns-clause-ok c =
    let a = c.self.inside in
    let r = c.in-Some.range in
    let s = stands_at a c.args.base r c.in-Some.ensures.some in
    let taken = not_false r.taken c.if-not-range.false in
    let g = freed_at a r c.self.invariant s c.with_next-freed.new.by_base _ c.with_next-freed.result c.with_last-freed.new.by_base _ c.with_last-freed.result taken c.with_next-freed.ensures.joined c.with_last-freed.ensures.joined in
    rw (← c.self.view_is) (gives a _ r s _ _ c.with_last-freed.result c.args.base c.in-Some.ensures.some.begins taken g refl c.write.ensures)

pub returns-clause-bases : goal.returns-clause-bases
returns-clause-bases c =
    let a = c.self.inside in
    let r = c.in-Some.range in
    let s = stands_at a c.args.base r c.in-Some.ensures.some in
    let taken = not_false r.taken c.if-not-range.false in
    let g = freed_at a r c.self.invariant s c.with_next-freed.new.by_base _ c.with_next-freed.result c.with_last-freed.new.by_base _ c.with_last-freed.result taken c.with_next-freed.ensures.joined c.with_last-freed.ensures.joined in
    rw (← c.self.view_is, c.write.ensures) (bases_of_give a r s _ _ c.with_last-freed.result c.args.base c.self.invariant c.in-Some.ensures.some.begins taken g)
