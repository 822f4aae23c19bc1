use Rattle.std.proofs.Common.{◌≡◌, ◌+◌, refl, ap, sym, subst, ◌∙◌, arith, vec_len}
use Rattle.vmem_arena.specs.Tags.{Tags}
use Rattle.vmem_arena.specs.Add.{IsSpanShape, MeetsNone}
use Rattle.vmem_arena.specs.TakenBases.{taken_bases}
use Rattle.vmem_arena.proofs.Keeping.{kept_add, adds, bases_of_add, total_low}
use Rattle.vmem_arena.proofs.arena.Arena.put_span.Goals as goal

pub overflow_add-self : goal.overflow_add-self
overflow_add-self c =
    let low = total_low c.self.inside c.self.invariant in
    let within = c.requires.shape.within in
    omega (arith, c.from.ensures)

pub invariant_of-self-2 : goal.invariant_of-self-2
invariant_of-self-2 c =
    let shape = subst (λ (t : Tags). IsSpanShape t.quantum c.args.span) (sym c.self.view_is) c.requires.shape in
    let none = subst (λ (t : Tags). MeetsNone c.args.span t.ranges) (sym c.self.view_is) c.requires.apart in
    let more = rw (c.reserve.ensures.same, c.of.ensures) at c.put-2.ensures.more in
    let spares : vec_len c.put-2.new.self.spares ≡ vec_len c.self.inside.free.spares = omega (arith, c.put-2.ensures.spares, c.in_ok-reserve.ensures.ok) in
    kept_add c.self.inside _ c.args.span c.self.invariant shape none refl c.in_ok-put.ensures.ok more spares (ap (λ n. c.self.inside.free_total + n) c.from.ensures)

pub returns-clause-ok : goal.returns-clause-ok
returns-clause-ok c =
    let none = subst (λ (t : Tags). MeetsNone c.args.span t.ranges) (sym c.self.view_is) c.requires.apart in
    rw (← c.self.view_is) (adds c.self.inside _ c.args.span c.self.invariant c.requires.shape.some none refl c.in_ok-put.ensures.ok)

pub returns-clause-bases : goal.returns-clause-bases
returns-clause-bases c =
    let none = subst (λ (t : Tags). MeetsNone c.args.span t.ranges) (sym c.self.view_is) c.requires.apart in
    rw (← c.self.view_is) (ap taken_bases c.in_ok-put.ensures.ok ∙ bases_of_add c.self.inside c.args.span c.self.invariant c.requires.shape.some none)
