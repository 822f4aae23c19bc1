use Rattle.std.proofs.Common.{rules, ◌<◌, length, set, arith, ap, ◌∙◌}
use Rattle.uma_keg.specs.HomeLists.{item_in}
use Rattle.uma_keg.proofs.HomePlaces.{slab_items_added, slab_items_kept}
use Rattle.uma_keg.proofs.home_items.HomeItems.add.Goals as goal

pub returns : goal.returns
returns g c =
    let slabs = c.args.self.now.slabs in
    let within : c.args.index < length slabs.items = omega (arith, slabs.ok.0, c.requires.within) in
    record {
      items = λ n at. ap (λ o. item_in c.args.self.now.per_slab (set slabs.items c.args.index o) n) c.replace-gap.ensures.after ∙ slab_items_added _ n _ _ _ within at;
      others = λ n other. ap (λ o. item_in c.args.self.now.per_slab (set slabs.items c.args.index o) n) c.replace-gap.ensures.after ∙ slab_items_kept _ n _ _ c.args.slab_items other;
      there = search rules;
      home_items = search rules;
      count = search rules;
      places = search rules;
    }
