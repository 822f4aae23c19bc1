use Rattle.std.proofs.Common.{rules, ◌/◌, None}
use Rattle.std.proofs.lemmas.Option.{slice_get_within}
use Rattle.uma_keg.proofs.HomePlaces.{read, slab_items_within, item_put, item_kept, place_gone}
use Rattle.uma_keg.proofs.home_items.HomeItems.put.Goals as goal

pub put-requires : goal.put-requires
put-requires g c =
    let home_items = c.args.self.now in
    let within = slab_items_within home_items.slabs.items (c.args.no / home_items.per_slab) c.requires.slab_items in
    place_gone _ _ _ _ home_items.some_place home_items.whole (read _ _ _ None _ within c.index_mut.ensures.value c.in-Some.is) c.requires.gone

pub returns : goal.returns
returns g c =
    let home_items = c.args.self.now in
    let within = slab_items_within home_items.slabs.items (c.args.no / home_items.per_slab) c.requires.slab_items in
    let there = read _ _ _ None _ within c.index_mut.ensures.value c.in-Some.is in
    record {
      item = item_put _ _ _ c.in-Some.slab_items _ _ within (slice_get_within _ _ _ (place_gone _ _ _ _ home_items.some_place home_items.whole there c.requires.gone)) c.put.ensures;
      others = item_kept _ _ _ _ _ _ within there c.put.ensures;
      home_items = search rules;
      count = search rules;
      places = search rules;
    }
