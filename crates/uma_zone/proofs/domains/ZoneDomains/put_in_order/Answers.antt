use Rattle.std.proofs.Common.{rules, ◌∷◌, List, sym, ap, ◌∙◌, subst}
use Rattle.std.specs.declared.vec.Vec.{Vec}
use Rattle.uma_bucket.specs.declared.shelved.Shelved.{Shelved}
use Rattle.uma_seat.specs.Seat.{shelf_of}
use Rattle.uma_zone.specs.Flushed.{in_order, AreLastOf}
use Rattle.uma_zone.specs.Ports.{origins_of, pushed_by, sent_of}
use Rattle.uma_zone.proofs.DomainShelves.{on_err, newest_last, oldest_first, both_back}
use Rattle.uma_zone.proofs.Listings.{put_none, put_both}
use Rattle.uma_zone.proofs.domains.ZoneDomains.put_in_order.Goals as goal

pub returns-in-Ok-clause-stay : goal.returns-in-Ok-clause-stay
returns-in-Ok-clause-stay g c =
    on_err c.put_newest.result (λ is. subst (λ (l : List (Shelved _ _ _ _ _)). AreLastOf (in_order c.args.oldest c.args.newest) l) (sym is) (newest_last c.args.oldest c.args.newest)) c.put_newest.ensures.stay

pub returns-in-Err-clause-stay : goal.returns-in-Err-clause-stay
returns-in-Err-clause-stay g c = both_back c.args.oldest c.args.newest c.in-Err.oldest (shelf_of c.put_back.new.seat) (shelf_of c.put_shelf.new.self) c.in-Err.ensures.back c.put_back.ensures.shelf c.put_shelf.ensures.oldest

pub returns-in-Ok-clause-done : goal.returns-in-Ok-clause-done
returns-in-Ok-clause-done g c = record {
  flushed = search rules;
  some_stay = search rules;
  ports = search rules;
  spares = search rules;
  kept = search rules;
  puts = put_both c.args.self.now c.args.oldest c.args.newest (shelf_of c.put_newest.new.seat) (sent_of c.args.seat.now) (sent_of c.put_if_some.new.seat) (sent_of c.put_newest.new.seat) c.in-Ok.ensures.sent c.put_newest.ensures.done.puts;
}

pub returns-in-Err-clause-done : goal.returns-in-Err-clause-done
returns-in-Err-clause-done g c = record {
  flushed = tt;
  some_stay = search rules;
  ports = ap (λ (v : Vec _ _). origins_of v.items) (c.put_shelf.ensures.ports ∙ c.put_back.ensures.ports) ∙ c.put_if_some.ensures.ports;
  spares = search rules;
  kept = search rules;
  puts = put_none c.args.self.now (in_order c.args.oldest c.args.newest) (shelf_of c.put_shelf.new.self) (sent_of c.args.seat.now) (sent_of c.put_shelf.new.self)
      (oldest_first c.args.oldest c.args.newest c.in-Err.oldest c.in-Err.ensures.back ∙ ap (λ (l : List (Shelved _ _ _ _ _)). c.in-Err.oldest ∷ l) (sym c.put_back.ensures.shelf) ∙ sym c.put_shelf.ensures.oldest)
      (ap (λ (v : Vec _ _). pushed_by v.items) (c.put_shelf.ensures.ports ∙ c.put_back.ensures.ports) ∙ c.in-Err.ensures.still);
}
