use Rattle.std.proofs.Common.{sym, ◌∙◌, is_some}
use Rattle.vmem_arena.proofs.FitLists.{order_left, order_right, removal_left, removal_right, without_it, one_more_here, same_fit}
use Rattle.vmem_arena.proofs.AtNode.{at_node}
use Rattle.vmem_arena.proofs.by_size.BySize.+remove.Goals as goal

pub set-requires : goal.set-requires
set-requires t c =
    let n = at_node c.self.view_is c.self.invariant (sym c.in-Full.ensures.value) in
    let h = rw c.deref_mut.ensures.value at c.remove-found.ensures.removal in
    rw c.deref_mut.ensures.value (order_left (is_some c.remove-found.result) _ _ _ _ c.args.fit h c.remove-found.ensures.order n.order)

pub returns-then-is_before-clause-removal : goal.returns-then-is_before-clause-removal
returns-then-is_before-clause-removal t c =
    let n = at_node c.self.view_is c.self.invariant (sym c.in-Full.ensures.value) in
    let e = rw c.deref.ensures at c.is_before.ensures in
    let b = sym e ∙ c.if-is_before.true in
    let h = rw c.deref_mut.ensures.value at c.remove-found.ensures.removal in
    rw (c.set.ensures.same, c.deref_mut.ensures.value, n.is) (removal_left (is_some c.remove-found.result) _ _ _ _ _ b h n.order)

pub set-requires-then-is_before-2 : goal.set-requires-then-is_before-2
set-requires-then-is_before-2 t c =
    let n = at_node c.self.view_is c.self.invariant (sym c.in-Full.ensures.value) in
    let h = rw c.deref_mut-then-is_before-2.ensures.value at c.remove-found-then-is_before-2.ensures.removal in
    rw c.deref_mut-then-is_before-2.ensures.value (order_right (is_some c.remove-found-then-is_before-2.result) _ _ _ _ c.args.fit h c.remove-found-then-is_before-2.ensures.order n.order)

pub returns-then-is_before-2-clause-removal : goal.returns-then-is_before-2-clause-removal
returns-then-is_before-2-clause-removal t c =
    let n = at_node c.self.view_is c.self.invariant (sym c.in-Full.ensures.value) in
    let e = rw c.deref-in-Full.ensures at c.is_before-in-Full.ensures in
    let b = sym e ∙ c.if-is_before-2.true in
    let h = rw c.deref_mut-then-is_before-2.ensures.value at c.remove-found-then-is_before-2.ensures.removal in
    rw (c.set-then-is_before-2.ensures.same, c.deref_mut-then-is_before-2.ensures.value, n.is) (removal_right (is_some c.remove-found-then-is_before-2.result) _ _ _ _ _ b h n.order)

pub joined-requires : goal.joined-requires
joined-requires t c =
    let n = at_node c.self.view_is c.self.invariant (sym c.in-Full.ensures.value) in
    rw (c.replace-before.ensures.value, c.replace-behind.ensures.value, c.deref_mut-in-Full-2.ensures.value, c.deref_mut-in-Full.ensures.value) (without_it _ _ _ n.order)

pub returns-else-is_before-2-clause-removal : goal.returns-else-is_before-2-clause-removal
returns-else-is_before-2-clause-removal t c test =
    let n = at_node c.self.view_is c.self.invariant (sym c.in-Full.ensures.value) in
    let e = rw c.deref.ensures at c.is_before.ensures in
    let b = sym e ∙ c.if-is_before.false in
    let e2 = rw c.deref-in-Full.ensures at c.is_before-in-Full.ensures in
    let b2 = sym e2 ∙ c.if-is_before-2.false in
    rw (c.replace_by.ensures.same, c.joined.ensures.same, c.replace-before.ensures.value, c.replace-behind.ensures.value, c.deref_mut-in-Full-2.ensures.value, c.deref_mut-in-Full.ensures.value, n.is) (one_more_here _ _ _ _ (same_fit _ _ b b2) test)
