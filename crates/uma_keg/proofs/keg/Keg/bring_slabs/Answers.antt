use Rattle.std.proofs.Common.{◌≤◌, ◌<◌, ◌^◌, refl, sym, subst, ◌∙◌}
use Rattle.std.proofs.lemmas.Result.{err_from_is_err_and}
use Rattle.uma_life.specs.Sum.{AreBelow}
use Rattle.uma_slabs.specs.Places.{slab_count, free_count}
use Rattle.uma_keg.specs.Keg.{places_in, reserve_in}
use Rattle.uma_keg.proofs.FreedSlabs.{same_more}
use Rattle.uma_keg.proofs.BroughtSlabs.{bringing_none, bringing_more, stops_bringing, brings_enough}
use Rattle.uma_keg.proofs.keg.Keg.bring_slabs.Goals as goal

pub loop-alloc-init : goal.loop-alloc-init
loop-alloc-init g c = record {
  bringing = bringing_none c.args.self.now c.args.domain;
  below = c.requires;
  zones = refl;
  rights = refl;
  limits = λ zone. refl;
  fetches = λ zone. refl;
  same = record { table = refl; rights_table = refl; size = refl; per_slab = refl; cap = refl; reserve = refl; hooks = refl };
}

pub loop-alloc-preserved : goal.loop-alloc-preserved
loop-alloc-preserved g c =
    let old = c.args.self.now in
    let mid = c.loop-alloc.self in
    let new = c.bring_slab.new.self in
    let before = c.loop-alloc.invariant in
    let one = c.in_ok-bring_slab.ensures in
    let wants : (free_count (places_in mid) ≤ reserve_in mid) × (slab_count (places_in mid) < (places_in mid).cap) = c.wants_slab.ensures.wants.0 c.loop-alloc-test.true in
    record {
      bringing = bringing_more old mid new c.args.domain before.bringing before.same wants.0 wants.1 one.brings;
      below = subst (AreBelow (2 ^ 120)) (sym one.brings.buried) before.below;
      zones = one.kept.zones ∙ before.zones;
      rights = one.kept.rights ∙ before.rights;
      limits = λ zone. one.kept.limits zone ∙ before.limits zone;
      fetches = λ zone. one.kept.fetches zone ∙ before.fetches zone;
      same = same_more old mid new before.same one.kept.same;
    }

pub returns-clause-brings : goal.returns-clause-brings
returns-clause-brings g c =
    let done = c.loop-alloc.invariant in
    let stop : (free_count (places_in c.loop-alloc.self) ≤ reserve_in c.loop-alloc.self) × (slab_count (places_in c.loop-alloc.self) < (places_in c.loop-alloc.self).cap) → ⊥ = λ wants. absurd (cc (c.wants_slab.ensures.wants.1 wants)) in
    (done.bringing.slabs, done.bringing.brings, brings_enough c.args.self.now c.loop-alloc.self c.args.domain done.bringing done.same stop c.wants_slab.ensures.within)

pub returns-in_err-bring_slab-clause-refused : goal.returns-in_err-bring_slab-clause-refused
returns-in_err-bring_slab-clause-refused g c =
    let mid = c.loop-alloc.self in
    let before = c.loop-alloc.invariant in
    let one = c.in_err-bring_slab.ensures in
    let wants : (free_count (places_in mid) ≤ reserve_in mid) × (slab_count (places_in mid) < (places_in mid).cap) = c.wants_slab.ensures.wants.0 c.loop-alloc-test.true in
    let p = err_from_is_err_and c.from_residual.result c.from_residual.ensures.1 in
    rw (p.1, p.2) (stops_bringing c.args.self.now mid c.bring_slab.new.self c.args.domain c.in_err-bring_slab.field-0.0 before.bringing before.same wants.0 wants.1 one.refused.refused one.refused.places one.refused.stored)
