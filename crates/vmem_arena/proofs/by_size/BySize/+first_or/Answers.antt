use Rattle.std.proofs.Common.{sym}
use Rattle.vmem_arena.proofs.FitLists.{find_behind, find_here}
use Rattle.vmem_arena.proofs.AtNode.{at_node}
use Rattle.vmem_arena.proofs.by_size.BySize.+first_or.Goals as goal

pub returns-then-deref-size-clause-first : goal.returns-then-deref-size-clause-first
returns-then-deref-size-clause-first t c =
    let n = at_node c.self.view_is c.self.invariant c.in-Full.is in
    let s = rw c.deref.ensures at c.if-deref-size.true in
    rw (c.first_or.ensures.first, c.deref-then-deref-size.ensures, n.is, find_behind _ _ _ _ s n.order)

pub returns-else-deref-size-clause-first : goal.returns-else-deref-size-clause-first
returns-else-deref-size-clause-first t c =
    let n = at_node c.self.view_is c.self.invariant c.in-Full.is in
    let s = rw c.deref.ensures at c.if-deref-size.false in
    let here = c.in-Full.node.value in
    rw (c.first_or-else-deref-size.ensures.first, c.deref-else-deref-size.ensures, c.deref-else-deref-size-2.ensures, n.is) (sym (find_here c.args.size here.before here.fit here.behind c.args.other s))
