use Rattle.std.proofs.Common.{sym, ◌∙◌, arith}
use Rattle.vmem_arena.proofs.Spaced.{ends_low}
use Rattle.vmem_arena.proofs.Giving.{next_stays, no_next, at_next, other_next, next_goes}
use Rattle.vmem_arena.proofs.free.with_next.Goals as goal

pub overflow_add-result : goal.overflow_add-result
overflow_add-result c =
    let a = c.in-Some.ensures.some in
    let e = ends_low _ a.before c.in-Some.next a.after a.is c.requires.low in
    let b = a.begins in
    omega arith

pub returns-then-are_one-clause-ends : goal.returns-then-are_one-clause-ends
returns-then-are_one-clause-ends c =
    let a = c.in-Some.ensures.some in
    let e = ends_low _ a.before c.in-Some.next a.after a.is c.requires.low in
    let b = a.begins in
    omega arith

pub returns-then-are_one-clause-joined : goal.returns-then-are_one-clause-joined
returns-then-are_one-clause-joined c before after e taken s same =
    let n = at_next before c.args.range after _ c.in-Some.next e s c.in-Some.ensures.some in
    let h = sym c.are_one.ensures ∙ c.if-are_one.true in
    let out = rw c.of.ensures at c.remove-then-are_one.ensures.fewer in
    next_goes before c.args.range after _ _ _ _ c.in-Some.next e s same n h c.remove.ensures out taken

pub returns-else-are_one-clause-joined : goal.returns-else-are_one-clause-joined
returns-else-are_one-clause-joined c before after e taken s same =
    let n = at_next before c.args.range after _ c.in-Some.next e s c.in-Some.ensures.some in
    let h = sym c.are_one.ensures ∙ c.if-are_one.false in
    next_stays before c.args.range after _ _ (other_next c.args.range after c.in-Some.next n h) e same

pub returns-in-None-clause-joined : goal.returns-in-None-clause-joined
returns-in-None-clause-joined c before after e taken s same =
    let none = rw e at c.in-None.ensures.none in
    next_stays before c.args.range after _ _ (no_next before c.args.range after none) e same
