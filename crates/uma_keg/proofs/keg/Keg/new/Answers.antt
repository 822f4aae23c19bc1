use Rattle.std.proofs.Common.{◌∙◌}
use Rattle.uma_keg.proofs.NewKeg.{PlacesLaw-new, ZonesLaw-new}
use Rattle.uma_keg.proofs.TallyLaws.{TallyLaw-new}
use Rattle.uma_keg.proofs.PairedSums.{paired_none}
use Rattle.uma_keg.proofs.Origins.{none_there}
use Rattle.uma_keg.proofs.keg.Keg.new.Goals as goal

pub invariant_of-keg : goal.invariant_of-keg
invariant_of-keg g c =
    let counts = c.counts-cap.ensures in
    record {
      places_law = PlacesLaw-new _ _ _ _ _ c.in_ok-places.ensures.new (rw (← counts.cap, ← counts.per_slab) c.in_ok-outside.ensures.zones) (c.in_ok-home_items.ensures.count ∙ counts.cap) (c.in_ok-home_items.ensures.places ∙ counts.per_slab) c.in_ok-home_items.ensures.none c.in_ok-home_items.ensures.no_item;
      zones_law = ZonesLaw-new _ _ _ c.in_ok-outside.ensures.zones c.in_ok-rights.ensures.book;
      tally_law = TallyLaw-new _ _ c.none.ensures c.in_ok-places.ensures.new.slabs;
      paired = paired_none _ c.none.ensures;
      book_of_hooks = c.in_ok-outside.ensures.origin ∙ c.of-origin.ensures;
      items_of_hooks = λ n item is. none_there _ _ item (c.in_ok-home_items.ensures.no_item n) is;
    }
