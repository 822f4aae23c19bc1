use Rattle.std.proofs.Common.{ap, ◌∙◌}
use Rattle.vmem_arena.specs.Tag.{ranges_of}
use Rattle.vmem_arena.proofs.Bases.{ranges_of-insert}
use Rattle.vmem_arena.proofs.free.ByBase.put.Goals as goal

pub returns-clause-ok : goal.returns-clause-ok
returns-clause-ok c =
    let r = c.args.range in
    let e = c.in_ok-insert.ensures.entries in
    ap ranges_of e ∙ ranges_of-insert r.base c.of.result c.self.inside.tags.entries (rw c.self.view_is c.requires) ∙ rw (c.self.view_is, c.of.ensures)
