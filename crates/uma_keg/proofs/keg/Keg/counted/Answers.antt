use Rattle.std.proofs.Common.{◌*◌, ap, ◌+◌, sym, ◌∙◌}
use Rattle.uma_keg.specs.HomeItems.{item_at}
use Rattle.uma_keg.proofs.PairedSums.{paired_total}
use Rattle.uma_keg.proofs.keg.Keg.counted.Goals as goal

pub invariant_of-result : goal.invariant_of-result
invariant_of-result g c =
    let keg = c.args.self.now in
    record {
      balanced = c.counts.ensures.balanced ∙ ap (λ outside. c.counts.result.free + outside) (sym c.outs.ensures.total);
      paired = paired_total keg.buried c.wide_tally.result (item_at keg.home_items) (keg.places.cap * keg.places.per_slab) keg.paired c.wide_tally.ensures.totals;
      bounded = c.wide_tally.ensures.below;
    }
