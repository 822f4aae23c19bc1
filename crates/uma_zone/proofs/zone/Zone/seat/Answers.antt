use Rattle.std.proofs.Common.{ap, rules}
use Rattle.uma_bucket.specs.Home.{Home}
use Rattle.uma_zone.proofs.NewSeats.{fresh_seat}
use Rattle.uma_zone.proofs.Ported.{ports_each}
use Rattle.uma_zone.proofs.zone.Zone.seat.Goals as goal

pub new-requires-clause-ports : goal.new-requires-clause-ports
new-requires-clause-ports g c = ports_each c.args.self.now.domains _ _ c.in_ok-ports.ensures.ports (ap (λ (h : Home). h.domains) c.in_ok-seating.ensures.home)

pub returns-in-Ok : goal.returns-in-Ok
returns-in-Ok g c = record {
  seat = search rules;
  fresh = fresh_seat c.in-Ok.seat _ _ _ _ _ _ c.in_ok-seating.ensures.own c.open_misses-misses.ensures.share c.in_ok-ports.ensures.new c.in-Ok.ensures.ports c.in-Ok.ensures.made;
}
