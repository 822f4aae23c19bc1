use Rattle.std.proofs.Common.{◌≡◌, ℕ, ◌<◌, ◌≤◌, Bool, true, false, not, ◌&&◌, [], ◌∷◌, sym, ap, ◌∙◌, subst, arith}
use Rattle.std.specs.Ordering.{nat_cmp, is_le}
use Rattle.std.proofs.lemmas.Bool.Decides.{nat_tests}
use Rattle.std.proofs.lemmas.List.{map-append}
use Rattle.vmem_arena.specs.Tag.{range_of, ranges_of}
use Rattle.vmem_arena.specs.ByBase.{NoneBelow}
use Rattle.vmem_arena.proofs.Bases.{ranges_of-filter, last_below_in, none_passes, rise_from}
use Rattle.vmem_arena.proofs.free.ByBase.last_below.Goals as goal

abbrev is_below : ℕ → ℕ → Bool
is_below base q = true && not (is_le (nat_cmp base q))

low : (base q : ℕ) → is_below base q ≡ true → q < base
low base q h = grind (arith, nat_tests)

high : (base q : ℕ) → is_below base q ≡ false → base ≤ q
high base q h = grind (arith, nat_tests)

pub returns-in-Some-clause-some : goal.returns-in-Some-clause-some
returns-in-Some-clause-some c =
    let e = ap ranges_of (sym (c.range.ensures.between tt) ∙ c.in-Some.ensures.steps) ∙ map-append range_of c.next_back.new.self ((c.in-Some.at.now, c.in-Some.tag.now) ∷ []) in
    let f = sym (ranges_of-filter (is_below c.args.base) c.self.inside.tags.entries) ∙ e in
    let g = last_below_in (is_below c.args.base) c.args.base (low c.args.base) (high c.args.base) _ (rise_from c.self.inside.tags.entries c.self.invariant) (ranges_of c.next_back.new.self) _ f in
    rw (c.at.ensures, ← c.self.view_is) g

pub returns-in-None-clause-none : goal.returns-in-None-clause-none
returns-in-None-clause-none c =
    let e = ap ranges_of (sym (c.range.ensures.between tt) ∙ c.in-None.ensures.steps.0) in
    let f = sym (ranges_of-filter (is_below c.args.base) c.self.inside.tags.entries) ∙ e in
    subst (λ rs. NoneBelow rs c.args.base) c.self.view_is (none_passes (is_below c.args.base) (λ r. c.args.base ≤ r.base) (λ r h. high c.args.base r.base h) (ranges_of c.self.inside.tags.entries) f)
