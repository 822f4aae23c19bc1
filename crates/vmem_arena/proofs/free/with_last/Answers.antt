use Rattle.std.proofs.Common.{sym, ◌∙◌, arith}
use Rattle.vmem_arena.proofs.Spaced.{ends_low}
use Rattle.vmem_arena.proofs.Giving.{no_last, at_last, other_last, last_goes}
use Rattle.vmem_arena.proofs.free.with_last.Goals as goal

pub are_one-requires : goal.are_one-requires
are_one-requires c =
    let a = c.in-Some.ensures.some in
    let e = ends_low _ a.before c.in-Some.last a.after a.is c.requires.low in
    omega arith

pub returns-then-are_one-clause-joined : goal.returns-then-are_one-clause-joined
returns-then-are_one-clause-joined c before range rest e base taken free s same =
    let l = at_last before range rest _ c.args.freed c.in-Some.last e s base c.in-Some.ensures.some in
    let h = sym c.are_one.ensures ∙ c.if-are_one.true in
    let out = rw c.of.ensures at c.remove-then-are_one.ensures.fewer in
    last_goes before range rest _ _ _ _ c.args.freed c.in-Some.last l h e s base taken same c.remove.ensures out

pub returns-else-are_one-clause-joined : goal.returns-else-are_one-clause-joined
returns-else-are_one-clause-joined c before range rest e base taken free s same =
    let l = at_last before range rest _ c.args.freed c.in-Some.last e s base c.in-Some.ensures.some in
    let h = sym c.are_one.ensures ∙ c.if-are_one.false in
    other_last before range rest _ _ c.args.freed c.in-Some.last l h e s base taken free same

pub returns-in-None-clause-joined : goal.returns-in-None-clause-joined
returns-in-None-clause-joined c before range rest e base taken free s same =
    no_last before range rest _ _ c.args.freed c.in-None.ensures.none e s base taken free same
