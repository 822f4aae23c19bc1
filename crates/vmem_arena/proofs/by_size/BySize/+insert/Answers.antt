use Rattle.std.proofs.Common.{sym, ◌∙◌}
use Rattle.vmem_arena.proofs.FitLists.{in_order, more_left, more_right, one_more_left, one_more_right}
use Rattle.vmem_arena.proofs.AtNode.{at_node}
use Rattle.vmem_arena.proofs.by_size.BySize.+insert.Goals as goal

pub set-requires : goal.set-requires
set-requires t c =
    let n = at_node c.self.view_is c.self.invariant (sym c.in-Full.ensures.value) in
    let e = rw c.deref.ensures at c.is_before.ensures in
    let b = sym e ∙ c.if-is_before.true in
    let h = rw c.deref_mut.ensures.value at c.insert.ensures.more in
    rw c.deref_mut.ensures.value (in_order _ _ _ (more_left _ _ _ _ _ b h c.insert.ensures.order n.order))

pub returns-then-is_before-clause-more : goal.returns-then-is_before-clause-more
returns-then-is_before-clause-more t c test =
    let n = at_node c.self.view_is c.self.invariant (sym c.in-Full.ensures.value) in
    let h = rw c.deref_mut.ensures.value at c.insert.ensures.more in
    rw (c.set.ensures.same, c.deref_mut.ensures.value, n.is) (one_more_left _ _ _ _ _ h test)

pub set-requires-else-is_before : goal.set-requires-else-is_before
set-requires-else-is_before t c =
    let n = at_node c.self.view_is c.self.invariant (sym c.in-Full.ensures.value) in
    let e = rw c.deref.ensures at c.is_before.ensures in
    let b = sym e ∙ c.if-is_before.false in
    let h = rw c.deref_mut-else-is_before.ensures.value at c.insert-else-is_before.ensures.more in
    rw c.deref_mut-else-is_before.ensures.value (in_order _ _ _ (more_right _ _ _ _ _ b h c.insert-else-is_before.ensures.order n.order))

pub returns-else-is_before-clause-more : goal.returns-else-is_before-clause-more
returns-else-is_before-clause-more t c test =
    let n = at_node c.self.view_is c.self.invariant (sym c.in-Full.ensures.value) in
    let h = rw c.deref_mut-else-is_before.ensures.value at c.insert-else-is_before.ensures.more in
    rw (c.set-else-is_before.ensures.same, c.deref_mut-else-is_before.ensures.value, n.is) (one_more_right _ _ _ _ _ h test)
