use Rattle.std.proofs.Common.{rules, ◌<◌, ◌/◌, None, length, sym, arith, ◌∙◌}
use Rattle.std.proofs.lemmas.Option.{slice_get_within}
use Rattle.std.proofs.lemmas.List.{get_or-set_same}
use Rattle.std.proofs.lemmas.Grind.{common_steps}
use Rattle.uma_keg.proofs.HomePlaces.{read, item_of, no_item_of, item_put, item_kept, gap_unmoved}
use Rattle.uma_keg.proofs.home_items.HomeItems.take.Goals as goal

pub returns-in-Some : goal.returns-in-Some
returns-in-Some g c =
    let slabs = c.args.self.now.slabs in
    let within : c.args.no / c.args.self.now.per_slab < length slabs.items = omega (arith, slabs.ok.0, c.requires) in
    let there = read _ _ _ None _ within c.index_mut.ensures.value c.in-Some.is in
    record {
      item = sym (item_of _ _ _ _ _ there c.take.ensures.item);
      gone = item_put _ _ _ c.in-Some.slab_items _ _ within (slice_get_within _ _ _ c.take.ensures.item) c.take.ensures.items;
      others = item_kept _ _ _ _ _ _ within there c.take.ensures.items;
      home_items = search rules;
      count = search rules;
      places = search rules;
    }

pub returns-in-None : goal.returns-in-None
returns-in-None g c =
    let slabs = c.args.self.now.slabs in
    let within : c.args.no / c.args.self.now.per_slab < length slabs.items = omega (arith, slabs.ok.0, c.requires) in
    let gap = read _ _ _ None _ within c.index_mut.ensures.value c.in-None.is in
    record {
      item = sym (no_item_of _ _ _ gap);
      gone = no_item_of _ _ _ (get_or-set_same _ _ _ None within ∙ c.in-None.is);
      others = λ n other. gap_unmoved _ n _ slabs.items _ within gap c.in-None.is;
      home_items = grind (arith, common_steps);
      count = search rules;
      places = search rules;
    }
