use Rattle.std.proofs.Common.{◌≡◌, ℕ, ◌<◌, ◌≤◌, Bool, true, false, not, ◌&&◌, sym, ap, ◌∙◌, subst, arith}
use Rattle.std.specs.Ordering.{nat_cmp, is_le}
use Rattle.std.proofs.lemmas.Bool.Decides.{nat_tests}
use Rattle.vmem_arena.specs.Tag.{ranges_of}
use Rattle.vmem_arena.specs.ByBase.{NoneFrom}
use Rattle.vmem_arena.proofs.Bases.{ranges_of-filter, first_from_in, none_passes}
use Rattle.vmem_arena.proofs.free.ByBase.first_from.Goals as goal

abbrev is_from : ℕ → ℕ → Bool
is_from base q = is_le (nat_cmp base q) && not false

low : (base q : ℕ) → is_from base q ≡ true → base ≤ q
low base q h = grind (arith, nat_tests)

high : (base q : ℕ) → is_from base q ≡ false → q < base
high base q h = grind (arith, nat_tests)

pub returns-in-Some-clause-some : goal.returns-in-Some-clause-some
returns-in-Some-clause-some c =
    let e = ap ranges_of (sym (c.range.ensures.between tt) ∙ c.in-Some.ensures.steps) in
    let f = sym (ranges_of-filter (is_from c.args.base) c.self.inside.tags.entries) ∙ e in
    let g = first_from_in (is_from c.args.base) c.args.base (low c.args.base) (high c.args.base) _ _ _ f in
    rw (c.at.ensures, ← c.self.view_is) g

pub returns-in-None-clause-none : goal.returns-in-None-clause-none
returns-in-None-clause-none c =
    let e = ap ranges_of (sym (c.range.ensures.between tt) ∙ c.in-None.ensures.steps.0) in
    let f = sym (ranges_of-filter (is_from c.args.base) c.self.inside.tags.entries) ∙ e in
    subst (λ rs. NoneFrom rs c.args.base) c.self.view_is (none_passes (is_from c.args.base) (λ r. r.base < c.args.base) (λ r h. high c.args.base r.base h) (ranges_of c.self.inside.tags.entries) f)
