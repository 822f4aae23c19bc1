use Rattle.std.proofs.Common.{rules, arith, refl, ap, subst, sym}
use Rattle.std.specs.Prelude.{map}
use Rattle.smr_clock.specs.Belongs.{view}
use Rattle.uma_bucket.specs.declared.shelved.Shelved.{Shelved}
use Rattle.uma_seat.specs.Seat.{seat_home, seat_clock}
use Rattle.uma_zone.specs.Flushed.{bound_of, TriesOnce}
use Rattle.uma_zone.proofs.Puts.{not_loose, tried_can}
use Rattle.uma_zone.proofs.domains.flush.take_tried.Goals as goal

pub returns-in-Loose : goal.returns-in-Loose
returns-in-Loose g c = record {
  pass = search rules;
  tried = record {
    oldest = c.in_ok-whole.whole;
    taken = c.in_ok-whole.ensures.oldest;
    tries = subst (λ (w : Shelved _ _ _ _ _). TriesOnce g.H.Host.copied (view c.args.pass.now) w c.try_to_seal.result (view c.try_to_seal.new.pass)) (sym c.in-Loose.is) c.try_to_seal.ensures.tried;
  };
  bound = search rules;
  can = tried_can (seat_home c.args.seat.now) _ (seat_clock c.args.seat.now) c.in_ok-whole.whole c.try_to_seal.result c.in-Loose.domain c.in-Loose.bucket c.in-Loose.is c.in_ok-whole.ensures.filled c.in_ok-whole.ensures.home
      c.try_to_seal.ensures.domain c.try_to_seal.ensures.count c.try_to_seal.ensures.tickets c.requires.clock c.try_to_seal.ensures.clock;
  none = tt;
  unchanged = tt;
  unseen = tt;
  spares = search rules;
  kept = search rules;
  ports = search rules;
}

pub returns-in_default : goal.returns-in_default
returns-in_default g c = record {
  pass = record { goes_on = record { own = c.requires.pass; phase = refl; seen = omega arith }; host = refl };
  tried = record { oldest = c.in_ok-whole.whole; taken = c.in_ok-whole.ensures.oldest; tries = not_loose g.H.Host.copied (view c.args.pass.now) c.in_ok-whole.whole c.in_default.not-Loose };
  bound = ap (map bound_of) c.in_ok-whole.ensures.oldest;
  can = record { filled = c.in_ok-whole.ensures.filled; at_home = c.in_ok-whole.ensures.home; of_clock = c.in_ok-whole.ensures.clock };
  none = tt;
  unchanged = tt;
  unseen = tt;
  spares = c.take_shelf.ensures.spares;
  kept = record {
    same = c.take_shelf.ensures.same;
    top = c.take_shelf.ensures.top;
    plain = c.take_shelf.ensures.plain;
    freed = c.take_shelf.ensures.freed;
    counts = c.take_shelf.ensures.counts;
    misses = c.take_shelf.ensures.misses;
  };
  ports = c.take_shelf.ensures.ports;
}
