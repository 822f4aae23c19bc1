use Rattle.std.proofs.Common.{rules, sym, ap, ◌∙◌}
use Rattle.std.specs.declared.vec.Vec.{Vec}
use Rattle.smr_clock.specs.Belongs.{view}
use Rattle.uma_seat.specs.Seat.{seat_domain, shelf_of}
use Rattle.uma_zone.specs.Ports.{pushed_by, sent_of}
use Rattle.uma_zone.proofs.DomainSeats.{still_seat}
use Rattle.uma_zone.proofs.DomainShelves.{none_there}
use Rattle.uma_zone.proofs.Listings.{flushes_still}
use Rattle.uma_zone.proofs.domains.ZoneDomains.make_room.Goals as goal

pub returns : goal.returns
returns g c = record {
  pass = search rules;
  seat = still_seat c.args.self.now c.flush.new.seat c.add_spares.new.seat c.add_spares.ensures.kept.same.0 c.add_spares.ensures.kept.misses c.add_spares.ensures.ports c.add_spares.ensures.kept.top c.flush.ensures.seat;
  two = search rules;
  flushed = search rules;
  spares = search rules;
  stay = none_there c.add_spares.result (shelf_of c.args.seat.now) (shelf_of c.add_spares.new.seat) c.add_spares.ensures.shelf;
  kept = search rules;
  flushes = flushes_still c.args.self.now (seat_domain c.args.seat.now) g.H.Host.copied (shelf_of c.args.seat.now) (shelf_of c.flush.new.seat) (shelf_of c.add_spares.new.seat) (sent_of c.args.seat.now) (sent_of c.flush.new.seat) (sent_of c.add_spares.new.seat) (view c.args.pass.now) (view c.flush.new.pass)
      (c.add_spares.ensures.shelf ∙ sym c.in_ok-flush.ensures.flushed) (ap (λ (v : Vec _ _). pushed_by v.items) c.add_spares.ensures.ports) c.flush.ensures.flushes;
}
