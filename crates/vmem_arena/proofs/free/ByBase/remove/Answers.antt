use Rattle.std.proofs.Common.{ap, ◌∙◌}
use Rattle.vmem_arena.specs.Tag.{ranges_of}
use Rattle.vmem_arena.specs.ByBase.{without}
use Rattle.vmem_arena.proofs.Bases.{ranges_of-remove}
use Rattle.vmem_arena.proofs.free.ByBase.remove.Goals as goal

pub returns : goal.returns
returns c = ap ranges_of c.remove.ensures.entries ∙ ranges_of-remove c.args.base c.self.inside.tags.entries ∙ ap (without c.args.base) c.self.view_is
