use Rattle.std.proofs.Common.{ap, ◌∙◌}
use Rattle.uma_seat.specs.Counts.{fails_in}
use Rattle.uma_zone.proofs.zone.Zone.make_room.Goals as goal

pub returns : goal.returns
returns g c =
    let done = c.make_room.ensures in
    record {
      pass = done.pass;
      seat = record { of_domains = done.seat; fails = ap fails_in done.kept.counts ∙ c.requires.seat.fails };
      two = done.two;
      flushed = done.flushed;
      spares = done.spares;
      stay = done.stay;
      kept = done.kept;
      flushes = done.flushes;
    }
