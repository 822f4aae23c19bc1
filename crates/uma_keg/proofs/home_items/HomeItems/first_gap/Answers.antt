use Rattle.std.proofs.Common.{rules, ◌≡◌, None, Some, is_none, arith, sym, ap, ◌∙◌}
use Rattle.std.specs.List.{position}
use Rattle.uma_keg.proofs.HomePlaces.{gap_found, no_gap}
use Rattle.uma_keg.proofs.home_items.HomeItems.first_gap.Goals as goal

pub returns-in-Some : goal.returns-in-Some
returns-in-Some g c =
    let slabs = c.args.self.now.slabs in
    let is : position is_none slabs.items ≡ Some c.in-Some.index = ap (position is_none) (sym c.deref.ensures.value) ∙ sym c.in-Some.ensures in
    let found = gap_found slabs.items c.in-Some.index is in
    record { gap = (found.1, omega (arith, slabs.ok.0, found.0)); least = found.2; none = search rules }

pub returns-in-None : goal.returns-in-None
returns-in-None g c =
    let slabs = c.args.self.now.slabs in
    let is : position is_none slabs.items ≡ None = ap (position is_none) (sym c.deref.ensures.value) ∙ sym c.in-None.ensures in
    record { gap = search rules; least = search rules; none = λ index below. no_gap slabs.items is index (omega (arith, slabs.ok.0, below)) }
