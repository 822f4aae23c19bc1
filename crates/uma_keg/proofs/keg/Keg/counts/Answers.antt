use Rattle.std.proofs.Common.{rules, arith}
use Rattle.uma_keg.proofs.UsedPlaces.{out_by_book}
use Rattle.uma_keg.proofs.keg.Keg.counts.Goals as goal

pub returns : goal.returns
returns g c =
    let keg = c.args.self.now in
    let places = c.counts-counts.ensures in
    let outside = out_by_book keg.places _ keg.home_items keg.places_law places.even in
    record {
      slabs = search rules;
      cap = search rules;
      made = search rules;
      free = search rules;
      per_slab = search rules;
      reserve = search rules;
      sound = search rules;
      balanced = rw (places.slabs, places.per_slab, places.free, outside) (omega (arith, places.sound.places));
    }
