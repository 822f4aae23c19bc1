use Rattle.std.proofs.Common.{rules, ◌∷◌, List, Option, None, sym, ap, ◌∙◌}
use Rattle.std.specs.declared.vec.Vec.{Vec}
use Rattle.uma_bucket.specs.declared.shelved.Shelved.{Shelved}
use Rattle.uma_seat.specs.Rack.{shelf_in}
use Rattle.uma_seat.specs.Seat.{shelf_of}
use Rattle.uma_zone.specs.Flushed.{in_order}
use Rattle.uma_zone.specs.Ports.{origins_of, pushed_by, sent_of}
use Rattle.uma_zone.proofs.Listings.{put_none, put_or_none}
use Rattle.uma_zone.proofs.domains.ZoneDomains.put_newest.Goals as goal

pub returns-in-Ok-clause-done : goal.returns-in-Ok-clause-done
returns-in-Ok-clause-done g c = record {
  flushed = search rules;
  some_stay = tt;
  ports = search rules;
  spares = search rules;
  kept = search rules;
  puts = put_or_none c.args.self.now c.args.newest (shelf_of c.put_if_some.new.seat) (sent_of c.args.seat.now) (sent_of c.put_if_some.new.seat) c.in-Ok.ensures.sent (ap shelf_in c.put_if_some.ensures.rack ∙ c.requires.shelf);
}

pub returns-in-Err-clause-done : goal.returns-in-Err-clause-done
returns-in-Err-clause-done g c = record {
  flushed = tt;
  some_stay = search rules;
  ports = ap (λ (v : Vec _ _). origins_of v.items) c.put_shelf.ensures.ports ∙ c.put_if_some.ensures.ports;
  spares = search rules;
  kept = search rules;
  puts = put_none c.args.self.now (in_order None c.args.newest) (shelf_of c.put_shelf.new.self) (sent_of c.args.seat.now) (sent_of c.put_shelf.new.self)
      (ap (λ (o : Option (Shelved _ _ _ _ _)). in_order None o) c.in-Err.ensures.back ∙ ap (λ (l : List (Shelved _ _ _ _ _)). c.in-Err.newest ∷ l) (sym (ap shelf_in c.put_if_some.ensures.rack ∙ c.requires.shelf)) ∙ sym c.put_shelf.ensures.oldest)
      (ap (λ (v : Vec _ _). pushed_by v.items) c.put_shelf.ensures.ports ∙ c.in-Err.ensures.still);
}
