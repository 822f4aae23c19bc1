-- Each side of a node has fewer fits than the node.
use Rattle.std.specs.Prelude.{◌≤◌, max, ◌∷◌, length}
use Rattle.std.proofs.Common.{arith, length-append}
use Rattle.vmem_arena.specs.declared.by_size.Link.{Link}
use Rattle.vmem_arena.specs.declared.by_size.Link.TheVariants.{Empty, Full}
use Rattle.vmem_arena.specs.declared.by_size.BySize.TheDeep.{deep-Link}
use Rattle.vmem_arena.specs.BySize.{fits}

pub deep_le-length-fits : (l : Link) → max (deep-Link l) 0 ≤ length (fits l)
deep_le-length-fits Empty = omega arith
deep_le-length-fits (Full n) = omega (arith, length-append n.value.before (n.value.fit ∷ n.value.behind))
