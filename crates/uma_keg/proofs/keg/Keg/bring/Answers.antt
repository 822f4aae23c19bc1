use Rattle.std.proofs.Common.{rules}
use Rattle.std.proofs.lemmas.Result.{IfErr-weaker}
use Rattle.uma_keg.specs.BringSlab.{RefusesSlab, StaysWithout}
use Rattle.uma_keg.specs.Keg.{buried_in}
use Rattle.uma_keg.proofs.RefusedSlab.{stays_places, stays_items}
use Rattle.uma_keg.proofs.keg.Keg.bring.Goals as goal

pub returns : goal.returns
returns g c =
    let old = c.args.self.now in
    let new = c.bring_slab.new.self in
    let end = c.bring_slab.result in
    let refused = c.bring_slab.ensures.refused in
    record {
      brings = c.bring_slab.ensures.brings;
      refused = IfErr-weaker end (λ why. StaysWithout old why new) (RefusesSlab old (buried_in new)) (λ why stays. stays.refused) refused;
      places = stays_places old new end refused;
      stored = stays_items old new end refused;
      sums_full = search rules;
      zones = c.bring_slab.ensures.kept.zones;
      rights = c.bring_slab.ensures.kept.rights;
      limits = c.bring_slab.ensures.kept.limits;
      fetches = c.bring_slab.ensures.kept.fetches;
      same = c.bring_slab.ensures.kept.same;
    }
