use Rattle.std.proofs.Common.{◌≡◌, ℕ, ◌<◌, ◌≤◌, sym, subst, ◌∙◌, arith}
use Rattle.std.specs.Int.{next_multiple_of}
use Rattle.std.proofs.lemmas.Result.{err_from_is_err_and}
use Rattle.vmem_arena.specs.Refused.{IsTakeSize}
use Rattle.vmem_arena.specs.Steps.{TakesFront}
use Rattle.vmem_arena.specs.Take.{IsBestFit, TakesRange}
use Rattle.vmem_arena.specs.Tags.{Tags, greatest_free}
use Rattle.vmem_arena.proofs.FreeCounts.{largest_is, none_fits}
use Rattle.vmem_arena.proofs.Choosing.{fit_has_range, chosen, part_of, whole_of, some_fit, takes}
use Rattle.vmem_arena.proofs.arena.Arena.take.Goals as goal

pub returns-in_default-clause-refused : goal.returns-in_default-clause-refused
returns-in_default-clause-refused c =
    let a = c.self.inside in
    let n = c.next_multiple_of-size.result in
    let low = c.next_multiple_of-size.ensures.lower_bound in
    let size : IsTakeSize c.args.size = record { some = omega arith; most = omega arith } in
    let some : 0 < n = omega (arith, size.some) in
    let largest = c.greatest.ensures ∙ largest_is a.free.by_size a.by_base c.self.invariant.free in
    let none = none_fits n a.free.by_size a.by_base some c.self.invariant.free (sym c.first_from.ensures.first ∙ c.in_default.is) in
    rw (← c.self.view_is) (size, c.next_multiple_of-size.ensures.value, largest, rw largest none)

pub unreachable-requires : goal.unreachable-requires
unreachable-requires c =
    fit_has_range c.self.inside c.next_multiple_of-size.result c.in-Some.fit c.self.invariant (sym c.first_from.ensures.first ∙ c.in-Some.is) c.in_default-at.ensures.none

pub take_part-requires-clause-part : goal.take_part-requires-clause-part
take_part-requires-clause-part c =
    let h = chosen c.self.inside c.next_multiple_of-size.result c.in-Some.fit c.in-Some-at.range c.self.invariant c.first_from.ensures.order (sym c.first_from.ensures.first ∙ c.in-Some.is) c.in-Some-at.ensures.some in
    let low = c.next_multiple_of-size.ensures.lower_bound in
    rw (← c.self.view_is) (part_of c.self.inside c.next_multiple_of-size.result c.in-Some-at.range h (omega arith) c.next_multiple_of-size.ensures.multiple)

pub take_whole-requires-clause-part : goal.take_whole-requires-clause-part
take_whole-requires-clause-part c =
    let h = chosen c.self.inside c.next_multiple_of-size.result c.in-Some.fit c.in-Some-at.range c.self.invariant c.first_from.ensures.order (sym c.first_from.ensures.first ∙ c.in-Some.is) c.in-Some-at.ensures.some in
    rw (← c.self.view_is) (whole_of c.self.inside c.next_multiple_of-size.result c.in-Some-at.range c.self.invariant h)

pub returns-in_err-take_part-clause-refused : goal.returns-in_err-take_part-clause-refused
returns-in_err-take_part-clause-refused c =
    let p = err_from_is_err_and c.from_residual.result c.from_residual.ensures.1 in
    let h = chosen c.self.inside c.next_multiple_of-size.result c.in-Some.fit c.in-Some-at.range c.self.invariant c.first_from.ensures.order (sym c.first_from.ensures.first ∙ c.in-Some.is) c.in-Some-at.ensures.some in
    let size : IsTakeSize c.args.size = record { some = omega arith; most = omega arith } in
    let fits = some_fit c.self.inside c.next_multiple_of-size.result c.in-Some-at.range h in
    let some : next_multiple_of c.args.size c.self.inside.quantum ≤ greatest_free c.self.inside.by_base = rw (← c.next_multiple_of-size.ensures.value) fits in
    rw (p.1, p.2, ← c.self.view_is) (size, some)

pub returns-in_err-take_whole-clause-refused : goal.returns-in_err-take_whole-clause-refused
returns-in_err-take_whole-clause-refused c =
    let p = err_from_is_err_and c.from_residual-in_err-take_whole.result c.from_residual-in_err-take_whole.ensures.1 in
    let h = chosen c.self.inside c.next_multiple_of-size.result c.in-Some.fit c.in-Some-at.range c.self.invariant c.first_from.ensures.order (sym c.first_from.ensures.first ∙ c.in-Some.is) c.in-Some-at.ensures.some in
    let size : IsTakeSize c.args.size = record { some = omega arith; most = omega arith } in
    let fits = some_fit c.self.inside c.next_multiple_of-size.result c.in-Some-at.range h in
    let some : next_multiple_of c.args.size c.self.inside.quantum ≤ greatest_free c.self.inside.by_base = rw (← c.next_multiple_of-size.ensures.value) fits in
    rw (p.1, p.2, ← c.self.view_is) (size, some)

pub returns-in_ok-take_part-clause-ok : goal.returns-in_ok-take_part-clause-ok
returns-in_ok-take_part-clause-ok c =
    let h = chosen c.self.inside c.next_multiple_of-size.result c.in-Some.fit c.in-Some-at.range c.self.invariant c.first_from.ensures.order (sym c.first_from.ensures.first ∙ c.in-Some.is) c.in-Some-at.ensures.some in
    let r = c.in-Some-at.range in
    let n = c.next_multiple_of-size.result in
    let best = subst (λ (t : Tags). IsBestFit t.ranges n r) c.self.view_is h.best in
    let value : n ≡ next_multiple_of c.args.size c.args.self.now.quantum = subst (λ (t : Tags). n ≡ next_multiple_of c.args.size t.quantum) c.self.view_is c.next_multiple_of-size.ensures.value in
    subst (λ (k : ℕ). TakesRange c.args.self.now k r.base c.take_part.new.self) value (takes c.args.self.now n r c.take_part.new.self best c.in_ok-take_part.ensures.ok)

pub returns-in_ok-take_whole-clause-ok : goal.returns-in_ok-take_whole-clause-ok
returns-in_ok-take_whole-clause-ok c =
    let h = chosen c.self.inside c.next_multiple_of-size.result c.in-Some.fit c.in-Some-at.range c.self.invariant c.first_from.ensures.order (sym c.first_from.ensures.first ∙ c.in-Some.is) c.in-Some-at.ensures.some in
    let r = c.in-Some-at.range in
    let n = c.next_multiple_of-size.result in
    let best = subst (λ (t : Tags). IsBestFit t.ranges n r) c.self.view_is h.best in
    let within = h.best.holds.holds in
    let all : r.size ≡ n = omega (arith, within, c.if-size-range.false) in
    let value : n ≡ next_multiple_of c.args.size c.args.self.now.quantum = subst (λ (t : Tags). n ≡ next_multiple_of c.args.size t.quantum) c.self.view_is c.next_multiple_of-size.ensures.value in
    let front = subst (λ (k : ℕ). TakesFront c.args.self.now r k c.take_whole.new.self) all c.in_ok-take_whole.ensures.ok in
    subst (λ (k : ℕ). TakesRange c.args.self.now k r.base c.take_whole.new.self) value (takes c.args.self.now n r c.take_whole.new.self best front)
