use Rattle.std.proofs.Common.{rules}
use Rattle.uma_zone.proofs.domains.ZoneDomains.try_listed.Goals as goal

pub returns : goal.returns
returns g c = record {
  pass = search rules;
  tries = record {
    listed = λ _. record { domain = c.get.result.now; named = c.get.ensures.named; count = c.seal_loose.result; seals = c.seal_loose.ensures.tried };
    none_listed = search rules;
  };
}
