use Rattle.std.proofs.Common.{refl, arith}
use Rattle.uma_zone.proofs.Found.{not_both}
use Rattle.uma_zone.proofs.domains.ZoneDomains.look.Goals as goal

pub returns-else-self : goal.returns-else-self
returns-else-self g c =
    let smr = not_both c.args.self.now.smr c.if-self.false in
    let look = c.look_for_plain.ensures in
    record {
      pass = record { own = c.requires.pass; phase = refl; seen = omega arith };
      seat = look.seat;
      found = look.found;
      ripe = λ is. absurd (smr is);
      hit = look.hit;
      missed = look.missed;
      no_top = look.no_top;
      no_rack = look.no_rack;
      unseen = λ _. refl;
      unseen_plain = λ _. refl;
      spares = look.spares;
      kept = look.kept;
      own = λ found. record { plain = λ _. look.own found; ripe = λ is. absurd (smr is) };
      looked = look.looked;
    }
