use Rattle.std.proofs.Common.{rules, refl, arith}
use Rattle.uma_zone.specs.Stopped.{SettlesInPart}
use Rattle.uma_zone.proofs.Settled.{at_err}
use Rattle.uma_zone.proofs.domains.ZoneDomains.settle.Goals as goal

pub returns : goal.returns
returns g c = record {
  pass = c.try_listed.ensures.pass;
  settled = record {
    domain = c.get.result.now;
    named = c.get.ensures.named;
    count = c.in_ok-settle.field-0;
    settled = c.in_ok-settle.ensures.settled;
    loose = c.try_listed.ensures.tries.listed;
    no_loose = c.try_listed.ensures.tries.none_listed;
  };
  unseen = tt;
  part = tt;
}

pub returns-in_err-settle : goal.returns-in_err-settle
returns-in_err-settle g c =
    let part : SettlesInPart c.args.self.now c.args.domain = record { domain = c.get.result.now; named = c.get.ensures.named; part = c.in_err-settle.ensures.stays } in
    record {
      pass = record { goes_on = record { own = c.requires.pass; phase = refl; seen = omega arith }; host = refl };
      settled = search rules;
      unseen = at_err _ refl;
      part = at_err _ part;
    }
