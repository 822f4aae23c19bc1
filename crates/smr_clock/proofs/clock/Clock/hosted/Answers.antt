use Rattle.std.proofs.Common.{rules}
use Rattle.smr_clock.proofs.MakingLemmas.{words_made}
use Rattle.smr_clock.proofs.clock.Clock.hosted.Goals as goal

pub returns : goal.returns
returns g c =
    record {
      in_range = search rules;
      clock = search rules;
      words = words_made _ _ _ _ _ _ c.in_ok-words.ensures (λ i. record { config = c.in_ok-config.ensures.made.made i; plan = c.args.plan }) (search rules) (search rules);
      workers = search rules;
      each_seat = search rules;
      seat_here = search rules;
      seat = search rules;
      refused = search rules;
    }
