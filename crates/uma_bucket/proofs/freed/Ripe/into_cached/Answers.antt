use Rattle.std.proofs.Common.{rules, ◌≡◌, sym, subst}
use Rattle.uma_bucket.specs.Bucket.{tickets_of}
use Rattle.uma_bucket.specs.Home.{AreHome}
use Rattle.uma_bucket.specs.Loose.{loose_tickets}
use Rattle.uma_bucket.proofs.Finishing.{same_tickets}
use Rattle.uma_bucket.proofs.freed.Ripe.into_cached.Goals as goal

pub returns : goal.returns
returns g c =
    let tickets : tickets_of c.finish.result ≡ loose_tickets c.args.self.loose = same_tickets (g.K.Hooks.leaves_dtor c.args.hooks.now) _ _ c.finish.ensures.finished in
    record {
      finished = search rules;
      tickets = tickets;
      home = λ home before. subst (AreHome home) (sym tickets) before;
      size = search rules;
      place = search rules;
      note = search rules;
      over = λ now following id follow there. c.no_section_is_before_a_known_goal.ensures.known _ now following id _ _ follow there c.args.self.expired;
    }
