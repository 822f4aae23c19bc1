-- What is known of a tree of fits once there is a node at its top.
use Rattle.std.proofs.Common.{◌≡◌, List, ◌∷◌, ◌++◌, length, ◌<◌, Box, sym, ap, ◌∙◌, subst}
use Rattle.std.specs.declared.alloc.Global.{Global}
use Rattle.vmem_arena.specs.declared.free.Fit.{Fit}
use Rattle.vmem_arena.specs.Fits.{Ascend}
use Rattle.vmem_arena.specs.BySize.{fits, node_fits}
use Rattle.vmem_arena.specs.declared.by_size.Link.{Link}
use Rattle.vmem_arena.specs.declared.by_size.Link.TheVariants.{Full}
use Rattle.vmem_arena.specs.declared.by_size.Node.{Node}
use Rattle.vmem_arena.proofs.FitLists.{Around, around, sides_shorter}

pub record AtNode (d : List Fit) (n : Node) : Type 0 where
  pub is : d ≡ n.before ++ n.fit ∷ n.behind
  pub order : Around n.before n.fit n.behind
  pub shorter : (length n.before < length d) × (length n.behind < length d)

pub at_node : {l : Link} {d : List Fit} {n : Box Node Global} → fits l ≡ d → Ascend (fits l) → l ≡ Full n → AtNode d n.value
at_node {l} {d} {n} view_is order is =
    let e : d ≡ node_fits n.value = sym view_is ∙ ap fits is in
    record {
      is = e;
      order = around n.value.before n.value.fit n.value.behind (subst Ascend (ap fits is) order);
      shorter = rw e (sides_shorter n.value.before n.value.fit n.value.behind);
    }
