use Rattle.std.proofs.Common.{rules, ap, ◌∙◌}
use Rattle.smr_clock.specs.Belongs.{view}
use Rattle.uma_seat.specs.Seat.{seat_domain, shelf_of}
use Rattle.uma_zone.proofs.Settled.{at_err, settled_own, stays_of, stopped_own}
use Rattle.uma_zone.proofs.Shelves.{none_left}
use Rattle.uma_zone.proofs.domains.ZoneDomains.flush_to_look.Goals as goal

pub returns-in_err-flush : goal.returns-in_err-flush
returns-in_err-flush g c = record {
  pass = c.flush.ensures.pass;
  seat = c.flush.ensures.seat;
  flushed = search rules;
  stay = c.in_err-flush.ensures.stay;
  spares = c.flush.ensures.spares;
  kept = c.flush.ensures.kept;
  flushes = record { left = view c.flush.new.pass; flushes = c.flush.ensures.flushes };
  settled = search rules;
  stopped = at_err _ (stays_of c.args.self.now c.args.seat.now c.flush.new.seat c.in_err-flush.ensures.some_stay);
}

pub returns : goal.returns
returns g c = record {
  pass = search rules;
  seat = c.flush.ensures.seat;
  flushed = search rules;
  stay = none_left (shelf_of c.args.seat.now) (shelf_of c.flush.new.seat) c.in_ok-flush.ensures.flushed;
  spares = c.flush.ensures.spares;
  kept = c.flush.ensures.kept;
  flushes = record { left = view c.flush.new.pass; flushes = c.flush.ensures.flushes };
  settled = settled_own c.args.self.now g.H.Host.copied c.domain.result (seat_domain c.args.seat.now) (view c.flush.new.pass) (view c.settle.new.pass) c.settle.result (c.domain.ensures ∙ ap (λ (s : _). s.domain) c.flush.ensures.kept.same.0) c.settle.ensures.settled;
  stopped = stopped_own c.args.self.now c.domain.result c.args.seat.now c.flush.new.seat c.settle.result (c.domain.ensures ∙ ap (λ (s : _). s.domain) c.flush.ensures.kept.same.0) c.settle.ensures.part;
}
