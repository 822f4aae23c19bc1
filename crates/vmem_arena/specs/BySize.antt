-- The tree of the free ranges as the list of them.
use Rattle.std.specs.Prelude.{List, [], ◌∷◌, ◌++◌}
use Rattle.vmem_arena.specs.declared.free.Fit.{Fit}
use Rattle.vmem_arena.specs.declared.by_size.Link.{Link}
use Rattle.vmem_arena.specs.declared.by_size.Link.TheVariants.{Empty, Full}
use Rattle.vmem_arena.specs.declared.by_size.Node.{Node}

-- those before the node's, the node's, and those behind it
abbrev pub node_fits : Node → List Fit
node_fits n = n.before ++ n.fit ∷ n.behind

abbrev pub fits : Link → List Fit
fits Empty = []
fits (Full n) = node_fits n.value
