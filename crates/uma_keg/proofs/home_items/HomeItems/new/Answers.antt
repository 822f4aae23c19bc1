use Rattle.std.proofs.Common.{rules}
use Rattle.uma_keg.proofs.HomePlaces.{item_none, slab_none}
use Rattle.uma_keg.proofs.home_items.HomeItems.new.Goals as goal

pub returns : goal.returns
returns g c = record {
  count = search rules;
  places = search rules;
  none = λ index. slab_none _ index _ c.loop.invariant.0;
  no_item = λ n. item_none _ _ n _ c.loop.invariant.0;
}
