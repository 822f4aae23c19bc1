use Rattle.std.proofs.Common.{refl, ◌∙◌}
use Rattle.uma_bucket.specs.Bucket.{items_of}
use Rattle.uma_keg.proofs.FreedSlabs.{same_more}
use Rattle.uma_keg.proofs.TakenItems.{known_none, known_more, into_none, into_more}
use Rattle.uma_keg.proofs.keg.Keg.take_items.Goals as goal

pub loop-taken-init : goal.loop-taken-init
loop-taken-init g c = record {
  takes = into_none c.args.self.now c.args.hooks.now c.args.zone (items_of c.args.into.now);
  known = known_none c.args.self.now;
  size = refl;
  rights = refl;
  limits = λ zone. refl;
  fetches = λ zone. refl;
  buried = refl;
  same = record { table = refl; rights_table = refl; size = refl; per_slab = refl; cap = refl; reserve = refl; hooks = refl };
}

pub loop-taken-preserved : goal.loop-taken-preserved
loop-taken-preserved g c =
    let old = c.args.self.now in
    let mid = c.loop-taken.self in
    let new = c.take_item.new.self in
    let before = c.loop-taken.invariant in
    let one = c.in-Ok.ensures in
    record {
      takes = into_more old mid new c.args.hooks.now c.args.zone c.loop-taken.taken _ _ _ c.in-Ok.item before.known before.same before.takes one.takes c.push.ensures.items;
      known = known_more old mid new c.args.hooks.now c.args.zone c.in-Ok.item before.known one.takes;
      size = c.push.ensures.size ∙ before.size;
      rights = one.kept.rights ∙ before.rights;
      limits = λ zone. one.kept.limits zone ∙ before.limits zone;
      fetches = λ zone. one.kept.fetches zone ∙ before.fetches zone;
      buried = one.kept.buried ∙ before.buried;
      same = same_more old mid new before.same one.kept.same;
    }
