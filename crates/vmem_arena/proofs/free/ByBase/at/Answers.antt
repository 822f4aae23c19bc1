use Rattle.std.proofs.Common.{sym, ap, ◌∙◌, subst}
use Rattle.std.specs.Option.{option_copied}
use Rattle.vmem_arena.specs.ByBase.{NoneAt}
use Rattle.vmem_arena.proofs.Bases.{at_from, none_at_from}
use Rattle.vmem_arena.proofs.free.ByBase.at.Goals as goal

pub returns-in-Some-clause-some : goal.returns-in-Some-clause-some
returns-in-Some-clause-some c =
    let e = sym c.get.ensures.value ∙ ap option_copied c.in-Some.is in
    rw (c.at.ensures, ← c.self.view_is) (at_from c.args.base c.in-Some.tag.now c.self.inside.tags.entries e)

pub returns-in-None-clause-none : goal.returns-in-None-clause-none
returns-in-None-clause-none c =
    let e = sym c.get.ensures.value ∙ ap option_copied c.in-None.is in
    subst (λ rs. NoneAt rs c.args.base) c.self.view_is (none_at_from c.args.base c.self.inside.tags.entries e)
