use Rattle.std.proofs.Common.{subst, arith}
use Rattle.vmem_arena.specs.TagsLaw.{IsMeasured}
use Rattle.vmem_arena.proofs.Spaced.{each_at}
use Rattle.vmem_arena.proofs.Merging.{Lawful}
use Rattle.vmem_arena.proofs.Adding.{met_last, none_reaches}
use Rattle.vmem_arena.proofs.Keeping.{lawful}
use Rattle.vmem_arena.proofs.arena.Arena.met_below.Goals as goal

pub overflow_add-last : goal.overflow_add-last
overflow_add-last c =
    let a = c.self.inside in
    let at = c.in-Some.ensures.some in
    let m = each_at (IsMeasured a.quantum) at.before c.in-Some.last at.after (subst (Lawful a.quantum) at.is (lawful a c.self.invariant)).measured in
    let within = m.within in
    omega arith

pub returns-then-span-last-clause-some : goal.returns-then-span-last-clause-some
returns-then-span-last-clause-some c =
    let a = c.self.inside in
    rw (← c.self.view_is) (met_last a.quantum a.by_base c.args.span c.in-Some.last (lawful a c.self.invariant) c.requires.some c.in-Some.ensures.some c.if-span-last.true)

pub returns-else-span-last-clause-none : goal.returns-else-span-last-clause-none
returns-else-span-last-clause-none c =
    let a = c.self.inside in
    rw (← c.self.view_is) (none_reaches a.quantum a.by_base c.args.span c.in-Some.last (lawful a c.self.invariant) c.in-Some.ensures.some c.if-span-last.false)
