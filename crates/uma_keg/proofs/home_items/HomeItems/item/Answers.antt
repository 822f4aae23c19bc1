use Rattle.std.proofs.Common.{◌<◌, ◌/◌, None, length, sym, arith, ◌∙◌}
use Rattle.uma_keg.proofs.HomePlaces.{read, item_in-slab_items, no_item_of}
use Rattle.uma_keg.proofs.home_items.HomeItems.item.Goals as goal

pub returns-in-Some : goal.returns-in-Some
returns-in-Some g c =
    let slabs = c.args.self.now.slabs in
    let within : c.args.no / c.args.self.now.per_slab < length slabs.items = omega (arith, slabs.ok.0, c.requires) in
    c.item.ensures ∙ sym (item_in-slab_items _ c.args.no slabs.items c.in-Some.slab_items (read _ _ _ None _ within c.index.ensures c.in-Some.is))

pub returns-in-None : goal.returns-in-None
returns-in-None g c =
    let slabs = c.args.self.now.slabs in
    let within : c.args.no / c.args.self.now.per_slab < length slabs.items = omega (arith, slabs.ok.0, c.requires) in
    sym (no_item_of _ c.args.no slabs.items (read _ _ _ None _ within c.index.ensures c.in-None.is))
