use Rattle.std.proofs.Common.{rules, ◌≡◌, Some, None, set, ap, ◌∙◌}
use Rattle.uma_keg.specs.HomeLists.{slab_items_in, item_in}
use Rattle.uma_keg.proofs.HomePlaces.{read, slab_items_within, item_in-slab_items, slab_items_gone, slab_items_stay}
use Rattle.uma_keg.proofs.home_items.HomeItems.remove.Goals as goal

pub returns : goal.returns
returns g c =
    let slabs = c.args.self.now.slabs in
    let within = slab_items_within slabs.items c.args.index c.requires in
    let found : c.index_mut.result.now ≡ Some c.in-Some.slab_items = cc (c.take.ensures.value, c.in-Some.is) in
    let there = read _ _ _ None _ within c.index_mut.ensures.value found in
    record {
      whole = c.args.self.now.whole.each c.args.index c.in-Some.slab_items there;
      items = λ n at. item_in-slab_items c.args.self.now.per_slab n slabs.items c.in-Some.slab_items (ap (slab_items_in slabs.items) at ∙ there);
      gone = λ n at. ap (λ o. item_in c.args.self.now.per_slab (set slabs.items c.args.index o) n) c.take.ensures.after ∙ slab_items_gone _ n _ _ within at;
      others = λ n other. ap (λ o. item_in c.args.self.now.per_slab (set slabs.items c.args.index o) n) c.take.ensures.after ∙ slab_items_stay _ n _ _ other;
      no_slab = search rules;
      home_items = search rules;
      count = search rules;
      places = search rules;
    }
