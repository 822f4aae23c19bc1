use Rattle.std.proofs.Common.{rules, ◌≤◌, ℕ, List, [], cond, length, ap, ◌∙◌, subst}
use Rattle.uma_bucket.specs.Bucket.{items_of}
use Rattle.uma_seat.specs.Rack.{spares_in}
use Rattle.uma_seat.specs.Seat.{seat_smr, free_bucket, top_of, spares_of, shelf_of}
use Rattle.uma_zone.proofs.Looks.{none_behind}
use Rattle.uma_zone.proofs.DomainSeats.{refilled_seat, spares_left}
use Rattle.uma_zone.proofs.domains.ZoneDomains.look_for_plain.Goals as goal

pub refill-requires : goal.refill-requires
refill-requires g c =
    let seat = c.args.seat.now in
    ap items_of c.take_plain.ensures.kept.top ∙ none_behind (cond (seat_smr seat) [] (free_bucket seat).items) (items_of seat.top) c.requires.none

pub returns-in-Some : goal.returns-in-Some
returns-in-Some g c =
    let mid = c.take_plain.new.seat in
    record {
      seat = refilled_seat c.args.self.now c.take_plain.new.seat c.refill.new.self c.in-Some.bucket c.refill.ensures.same.0 c.refill.ensures.misses c.refill.ensures.ports c.refill.ensures.top c.in-Some.ensures.of_zone.at_home c.take_plain.ensures.seat;
      found = search rules;
      hit = search rules;
      missed = search rules;
      no_top = search rules;
      no_rack = search rules;
      spares = subst (λ (l : List ℕ). length l ≤ length (spares_of c.refill.new.self)) (ap spares_in c.take_plain.ensures.kept.rack)
          (spares_left (spares_of mid) (spares_of c.refill.new.self) (length (shelf_of mid)) (top_of mid).room c.refill.ensures.spare c.refill.ensures.no_place);
      kept = search rules;
      own = λ _. record { bucket = c.in-Some.bucket; taken = c.in-Some.ensures.own; all = ap items_of c.refill.ensures.top };
      looked = search rules;
    }
