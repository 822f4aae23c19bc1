use Rattle.std.proofs.Common.{◌∙◌}
use Rattle.vmem_arena.proofs.FitLists.{or_none}
use Rattle.vmem_arena.proofs.by_size.BySize.first_from.Goals as goal

pub returns-clause-first : goal.returns-clause-first
returns-clause-first c = c.first_or.ensures.first ∙ or_none _
