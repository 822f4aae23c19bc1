use Rattle.std.proofs.Common.{rules, ◌≡◌, ◌≤◌, ◌<◌, ℕ, length, sym, ap, ◌∙◌, subst, arith}
use Rattle.std.proofs.lemmas.List.{length-map}
use Rattle.std.specs.declared.vec.Vec.{Vec}
use Rattle.smr_clock.specs.Belongs.{view}
use Rattle.uma_bucket.specs.Bucket.{size_of}
use Rattle.uma_seat.specs.Seat.{seat_domain, spares_of, shelf_of}
use Rattle.uma_zone.specs.Domains.{domain_count}
use Rattle.uma_zone.specs.Flushed.{bound_of, in_order}
use Rattle.uma_zone.specs.Ports.{origins_of, pushed_by, sent_of}
use Rattle.uma_zone.proofs.DomainSeats.{flushed_seat}
use Rattle.uma_zone.proofs.DomainShelves.{on_err, both_taken, last_there}
use Rattle.uma_zone.proofs.Listings.{puts_from, tries_both, tries_of}
use Rattle.uma_zone.proofs.domains.ZoneDomains.flush.Goals as goal

pub put_in_order-requires : goal.put_in_order-requires
put_in_order-requires g c =
    let seat = c.args.seat.now in
    let first = c.take_tried-oldest in
    let second = c.take_tried-newest in
    let one = first.ensures in
    let two = second.ensures in
    let taken = in_order first.result second.result in
    let few : length (shelf_of seat) ≤ 2 = omega (arith, seat.rack.few, seat.rack.shelf.ok.0) in
    let both = both_taken (shelf_of seat) (shelf_of first.new.seat) (shelf_of second.new.seat) first.result second.result few one.bound one.none one.unchanged two.bound two.none two.unchanged in
    let long : length (shelf_of seat) ≡ length taken = sym (length-map (shelf_of seat) bound_of) ∙ ap length both.bound ∙ length-map taken bound_of in
    let spares : length (spares_of second.new.seat) ≡ length (spares_of seat) = ap length (two.spares ∙ one.spares) in
    record {
      home = search rules;
      clock = search rules;
      ports = ap (λ (v : Vec _ _). origins_of v.items) (two.ports ∙ one.ports) ∙ c.requires.seat.ports;
      shelf = both.empty;
      places = omega (arith, long, spares, length-map seat.rack.spares.items size_of, seat.rack.few, seat.rack.spares.ok.0, seat.rack.shelf.ok.0);
      oldest = search rules;
      newest = search rules;
    }

pub try_listed-requires : goal.try_listed-requires
try_listed-requires g c =
    let first = c.take_tried-oldest.ensures in
    let second = c.take_tried-newest.ensures in
    let own : c.domain.result ≡ seat_domain c.args.seat.now = c.domain.ensures ∙ ap (λ (s : _). s.domain) (second.kept.same.0 ∙ first.kept.same.0) in
    record { clock = c.requires.clock; pass = second.pass.goes_on.own; domain = subst (λ (n : ℕ). n < domain_count c.args.self.now) (sym own) c.requires.seat.own }

pub returns : goal.returns
returns g c =
    let seat = c.args.seat.now in
    let first = c.take_tried-oldest in
    let second = c.take_tried-newest in
    let one = first.ensures in
    let two = second.ensures in
    let listed = c.try_listed.ensures in
    let put = c.put_in_order.ensures.done in
    let few : length (shelf_of seat) ≤ 2 = omega (arith, seat.rack.few, seat.rack.shelf.ok.0) in
    let both = both_taken (shelf_of seat) (shelf_of first.new.seat) (shelf_of second.new.seat) first.result second.result few one.bound one.none one.unchanged two.bound two.none two.unchanged in
    record {
      pass = record {
        goes_on = record {
          own = listed.pass.goes_on.own;
          phase = listed.pass.goes_on.phase ∙ two.pass.goes_on.phase ∙ one.pass.goes_on.phase;
          seen = omega (arith, listed.pass.goes_on.seen, two.pass.goes_on.seen, one.pass.goes_on.seen);
        };
        host = listed.pass.host ∙ two.pass.host ∙ one.pass.host;
      };
      seat = flushed_seat c.args.self.now seat c.put_in_order.new.seat (put.kept.same.0 ∙ two.kept.same.0 ∙ one.kept.same.0) (put.kept.misses ∙ two.kept.misses ∙ one.kept.misses) put.ports (put.kept.top ∙ two.kept.top ∙ one.kept.top) c.requires.seat;
      flushed = search rules;
      stay = on_err c.put_in_order.result (last_there (shelf_of seat) (shelf_of c.put_in_order.new.seat) first.result second.result both.bound) c.put_in_order.ensures.stay;
      some_stay = search rules;
      spares = search rules;
      kept = search rules;
      flushes = record {
        tried = in_order first.result second.result;
        mid = view second.new.pass;
        tries = tries_both g.H.Host.copied (view c.args.pass.now) (view first.new.pass) (view second.new.pass) (shelf_of seat) (shelf_of first.new.seat) (shelf_of second.new.seat) first.result second.result few one.tried one.none one.unchanged one.unseen two.tried two.none two.unseen;
        loose = tries_of c.args.self.now g.H.Host.copied (view second.new.pass) (view c.try_listed.new.pass) _ (seat_domain seat) (c.domain.ensures ∙ ap (λ (s : _). s.domain) (two.kept.same.0 ∙ one.kept.same.0)) listed.tries;
        puts = puts_from c.args.self.now (in_order first.result second.result) (shelf_of c.put_in_order.new.seat) (sent_of seat) (sent_of second.new.seat) (sent_of c.put_in_order.new.seat) (ap (λ (v : Vec _ _). pushed_by v.items) (two.ports ∙ one.ports)) put.puts;
      };
    }
