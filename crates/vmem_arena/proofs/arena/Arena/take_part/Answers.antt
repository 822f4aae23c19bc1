use Rattle.std.proofs.Common.{◌≡◌, ◌+◌, ◌-◌, refl, ap, sym, subst, ◌∙◌, arith, vec_len}
use Rattle.vmem_arena.specs.Tags.{Tags}
use Rattle.vmem_arena.specs.Steps.{StandsIn, IsPartOf}
use Rattle.vmem_arena.proofs.Keeping.{kept_part, takes_part, bases_of_part, size_le_total, none_at_part, end_of_part}
use Rattle.vmem_arena.proofs.arena.Arena.take_part.Goals as goal

pub overflow_add-rest : goal.overflow_add-rest
overflow_add-rest c =
    let stands = subst (λ (t : Tags). StandsIn t.ranges c.args.range) (sym c.self.view_is) c.requires.stands in
    let e = end_of_part c.self.inside c.args.range c.self.invariant stands in
    let l = c.requires.less in
    omega arith

pub put-requires : goal.put-requires
put-requires c =
    let stands = subst (λ (t : Tags). StandsIn t.ranges c.args.range) (sym c.self.view_is) c.requires.stands in
    none_at_part c.self.inside c.args.range c.args.size c.self.invariant stands c.requires.part.some c.requires.less

pub overflow_sub-self : goal.overflow_sub-self
overflow_sub-self c =
    let stands = subst (λ (t : Tags). StandsIn t.ranges c.args.range) (sym c.self.view_is) c.requires.stands in
    let low = size_le_total c.self.inside c.args.range c.self.invariant stands c.requires.part.free in
    let l = c.requires.less in
    omega (arith, c.from.ensures)

pub invariant_of-self-2 : goal.invariant_of-self-2
invariant_of-self-2 c =
    let r = c.args.range in
    let n = c.args.size in
    let stands = subst (λ (t : Tags). StandsIn t.ranges r) (sym c.self.view_is) c.requires.stands in
    let part = subst (λ (t : Tags). IsPartOf t.quantum n r) (sym c.self.view_is) c.requires.part in
    let exchange = rw (c.reserve.ensures.same, c.of.ensures, c.of-2.ensures) at c.replace.ensures.exchange in
    let is = c.write.ensures ∙ rw (c.front_of.ensures, c.in_ok-put.ensures.ok) in
    let spares : vec_len c.replace.new.self.spares ≡ vec_len c.self.inside.free.spares + 1 = omega (arith, c.replace.ensures.spares, c.in_ok-reserve.ensures.ok) in
    kept_part c.self.inside _ r n c.self.invariant stands part c.requires.less refl is exchange spares (ap (λ k. c.self.inside.free_total - k) c.from.ensures)

pub returns-clause-ok : goal.returns-clause-ok
returns-clause-ok c =
    let r = c.args.range in
    let stands = subst (λ (t : Tags). StandsIn t.ranges r) (sym c.self.view_is) c.requires.stands in
    let is = c.write.ensures ∙ rw (c.front_of.ensures, c.in_ok-put.ensures.ok) in
    rw (← c.self.view_is) (takes_part c.self.inside _ r c.args.size c.self.invariant stands c.requires.part.some c.requires.less refl is)

pub returns-clause-bases : goal.returns-clause-bases
returns-clause-bases c =
    let r = c.args.range in
    let stands = subst (λ (t : Tags). StandsIn t.ranges r) (sym c.self.view_is) c.requires.stands in
    rw (← c.self.view_is, c.write.ensures, c.front_of.ensures, c.in_ok-put.ensures.ok) (bases_of_part c.self.inside r c.args.size c.self.invariant stands c.requires.part.free c.requires.part.some c.requires.less)
