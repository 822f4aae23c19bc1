use Rattle.std.proofs.Common.{◌≡◌, sym, ap, ◌∙◌}
use Rattle.vmem_arena.specs.BySize.{fits, node_fits}
use Rattle.vmem_arena.specs.declared.by_size.Node.{Node}
use Rattle.vmem_arena.proofs.FitLists.{turned_before_order}
use Rattle.vmem_arena.proofs.by_size.turned_before.Goals as goal

pub tree-requires-2 : goal.tree-requires-2
tree-requires-2 c =
    let v = c.args.node.value in
    let m = c.deref_mut-2.result.now in
    let top = sym c.replace-2.view_is ∙ ap fits c.in-Full.is in
    let here : m ≡ c.in-Full.top.value = cc (c.deref_mut-2.ensures.value, c.in-Full.top-is) in
    let from = sym (ap (λ (n : Node). n.behind) c.deref_mut.ensures.value) ∙ sym c.replace.ensures.value ∙ top in
    let whole : v.behind ≡ node_fits m = rw here from in
    rw (c.replace-3.ensures.value, c.deref_mut-3.ensures.value, c.deref_mut.ensures.value) (turned_before_order v.before v.fit m.before m.fit m.behind v.behind whole c.requires)
