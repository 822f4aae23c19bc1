use Rattle.std.proofs.Common.{rules}
use Rattle.uma_zone.proofs.Found.{taken_plain, no_plain}
use Rattle.uma_zone.proofs.domains.ZoneDomains.take_plain.Goals as goal

pub returns : goal.returns
returns g c = record {
  of_zone = search rules;
  hit = search rules;
  missed = search rules;
  seat = search rules;
  kept = search rules;
  own = taken_plain c.args.self.now _ _ c.get-domain.result.now c.take_plain.result c.domain.ensures c.get-domain.ensures.named c.take_plain.ensures.taken;
  looked = no_plain c.args.self.now _ _ c.get-domain.result.now c.take_plain.result c.domain.ensures c.requires.plain c.get-domain.ensures.named c.take_plain.ensures.looked;
}
