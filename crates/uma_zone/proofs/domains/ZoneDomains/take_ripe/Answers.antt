use Rattle.std.proofs.Common.{rules}
use Rattle.uma_zone.proofs.Found.{taken_ripe, no_ripe}
use Rattle.uma_zone.proofs.domains.ZoneDomains.take_ripe.Goals as goal

pub returns : goal.returns
returns g c = record {
  filled = search rules;
  of_clock = search rules;
  hit = search rules;
  missed = search rules;
  seat = search rules;
  kept = search rules;
  own = taken_ripe c.args.self.now _ _ c.get-domain.result.now c.take_ripe.result c.domain.ensures c.get-domain.ensures.named c.take_ripe.ensures.taken;
  looked = no_ripe c.args.self.now _ _ c.get-domain.result.now c.take_ripe.result c.domain.ensures c.requires.smr c.get-domain.ensures.named c.take_ripe.ensures.looked;
}
