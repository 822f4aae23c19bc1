use Rattle.std.proofs.Common.{◌≡◌, ◌+◌, ◌-◌, refl, ap, sym, subst, ◌∙◌, arith, vec_len}
use Rattle.vmem_arena.specs.Tags.{Tags}
use Rattle.vmem_arena.specs.ByBase.{written}
use Rattle.vmem_arena.specs.Steps.{StandsIn, IsPartOf}
use Rattle.vmem_arena.proofs.Keeping.{kept_whole, takes_whole, bases_of_whole, size_le_total}
use Rattle.vmem_arena.proofs.arena.Arena.take_whole.Goals as goal

pub overflow_sub-self : goal.overflow_sub-self
overflow_sub-self c =
    let stands = subst (λ (t : Tags). StandsIn t.ranges c.args.range) (sym c.self.view_is) c.requires.stands in
    let low = size_le_total c.self.inside c.args.range c.self.invariant stands c.requires.part.free in
    omega (arith, c.from.ensures)

pub invariant_of-self-2 : goal.invariant_of-self-2
invariant_of-self-2 c =
    let r = c.args.range in
    let stands = subst (λ (t : Tags). StandsIn t.ranges r) (sym c.self.view_is) c.requires.stands in
    let part = subst (λ (t : Tags). IsPartOf t.quantum r.size r) (sym c.self.view_is) c.requires.part in
    let less = rw (c.reserve.ensures.same, c.of.ensures) at c.remove.ensures.fewer in
    let is = c.write.ensures ∙ ap (λ u. written u c.self.inside.by_base) c.front_of.ensures in
    let spares : vec_len c.remove.new.self.spares ≡ vec_len c.self.inside.free.spares + 1 = omega (arith, c.remove.ensures.spares, c.in_ok-reserve.ensures.ok) in
    kept_whole c.self.inside _ r c.self.invariant stands part refl is less spares (ap (λ n. c.self.inside.free_total - n) c.from.ensures)

pub returns-clause-ok : goal.returns-clause-ok
returns-clause-ok c =
    let r = c.args.range in
    let stands = subst (λ (t : Tags). StandsIn t.ranges r) (sym c.self.view_is) c.requires.stands in
    let is = c.write.ensures ∙ ap (λ u. written u c.self.inside.by_base) c.front_of.ensures in
    rw (← c.self.view_is) (takes_whole c.self.inside _ r c.self.invariant stands refl is)

pub returns-clause-bases : goal.returns-clause-bases
returns-clause-bases c =
    let r = c.args.range in
    let stands = subst (λ (t : Tags). StandsIn t.ranges r) (sym c.self.view_is) c.requires.stands in
    let is = c.write.ensures ∙ ap (λ u. written u c.self.inside.by_base) c.front_of.ensures in
    rw (← c.self.view_is, is) (bases_of_whole c.self.inside r c.self.invariant stands c.requires.part.free)
