use Rattle.vmem_arena.proofs.FitLists.{largest_behind}
use Rattle.vmem_arena.proofs.AtNode.{at_node}
use Rattle.vmem_arena.proofs.by_size.BySize.+greatest.Goals as goal

pub returns-in-Full : goal.returns-in-Full
returns-in-Full t c =
    let n = at_node c.self.view_is c.self.invariant c.in-Full.is in
    let e = largest_behind _ _ _ n.order in
    rw (c.max.ensures, c.greatest.ensures, c.deref-in-Full.ensures, c.deref.ensures, n.is, e)
