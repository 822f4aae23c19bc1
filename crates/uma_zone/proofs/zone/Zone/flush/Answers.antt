use Rattle.std.proofs.Common.{ap, ◌∙◌}
use Rattle.uma_seat.specs.Counts.{fails_in}
use Rattle.uma_zone.proofs.zone.Zone.flush.Goals as goal

pub returns : goal.returns
returns g c =
    let done = c.flush.ensures in
    record {
      pass = done.pass;
      seat = record { of_domains = done.seat; fails = ap fails_in done.kept.counts ∙ c.requires.seat.fails };
      flushed = done.flushed;
      stay = done.stay;
      some_stay = done.some_stay;
      spares = done.spares;
      kept = done.kept;
      flushes = done.flushes;
    }
