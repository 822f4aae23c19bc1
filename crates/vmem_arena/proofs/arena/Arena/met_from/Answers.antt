use Rattle.std.proofs.Common.{sym, subst}
use Rattle.vmem_arena.specs.Tags.{Tags}
use Rattle.vmem_arena.specs.Steps.{NoneReaches}
use Rattle.vmem_arena.proofs.Adding.{met_first, meets_none}
use Rattle.vmem_arena.proofs.Keeping.{lawful}
use Rattle.vmem_arena.proofs.arena.Arena.met_from.Goals as goal

pub returns-then-first-span-clause-some : goal.returns-then-first-span-clause-some
returns-then-first-span-clause-some c =
    let a = c.self.inside in
    let below = subst (λ (t : Tags). NoneReaches c.args.span t.ranges) (sym c.self.view_is) c.requires.below in
    rw (← c.self.view_is) (met_first a.quantum a.by_base c.args.span c.in-Some.first (lawful a c.self.invariant) below c.in-Some.ensures.some c.if-first-span.true)

pub returns-else-first-span-clause-none : goal.returns-else-first-span-clause-none
returns-else-first-span-clause-none c =
    let a = c.self.inside in
    let below = subst (λ (t : Tags). NoneReaches c.args.span t.ranges) (sym c.self.view_is) c.requires.below in
    rw (← c.self.view_is) (meets_none a.quantum a.by_base c.args.span c.in-Some.first (lawful a c.self.invariant) below c.in-Some.ensures.some c.if-first-span.false)
