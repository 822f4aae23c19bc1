use Rattle.std.proofs.Common.{Err, ap, refl, ◌∙◌}
use Rattle.std.proofs.lemmas.Result.{err_from_is_err_and}
use Rattle.std.specs.declared.vec.Vec.{Vec}
use Rattle.uma_seat.specs.Rack.{shelf_in}
use Rattle.uma_seat.specs.Seat.{seat_domain, shelf_of}
use Rattle.uma_zone.specs.declared.zone.alloc.AllocRefused.{AllocRefused}
use Rattle.uma_zone.specs.Ports.{pushed_by, sent_of}
use Rattle.uma_zone.proofs.Listings.{flushed_between}
use Rattle.uma_zone.proofs.Serves.{served_by, refused_by}
use Rattle.uma_zone.proofs.Settled.{as_err, not_err, not_memory}
use Rattle.uma_zone.proofs.zone.Zone.alloc.Goals as goal

pub returns-clause-served : goal.returns-clause-served
returns-clause-served g c =
    let item = c.in_ok-item.ensures.taken in
    let kept = c.build.ensures.kept in
    served_by c.args.self.now c.args.ask c.args.seat.now c.take.new.seat c.build.new.seat c.in_ok-item.item c.build.result item.takes item.ledger kept.fetches kept.misses kept.kept_room kept.same c.build.ensures.built

pub returns-clause-refused : goal.returns-clause-refused
returns-clause-refused g c =
    let item = c.in_ok-item.ensures.taken in
    let kept = c.build.ensures.kept in
    refused_by c.args.self.now c.args.ask c.args.seat.now c.take.new.seat c.build.new.seat c.in_ok-item.item c.build.result item.takes item.ledger kept.fetches kept.misses kept.kept_room kept.same c.build.ensures.refused

pub returns-in_err-item-clause-flushes : goal.returns-in_err-item-clause-flushes
returns-in_err-item-clause-flushes g c =
    let told = err_from_is_err_and c.from_residual.result c.from_residual.ensures.1 in
    let before = c.in_err-item.ensures.flushes in
    record {
      flushed = before.flushed;
      settled = λ none other. before.settled none (λ same. other (told.1 ∙ ap (λ (e : AllocRefused). Err e) told.2 ∙ as_err _ _ same));
      unflushed = before.unflushed;
      unpushed = before.unpushed;
      unseen = before.unseen;
    }

pub returns-clause-flushes : goal.returns-clause-flushes
returns-clause-flushes g c =
    let before = c.in_ok-item.ensures.flushes in
    let kept = c.build.ensures.kept in
    record {
      flushed = λ none. flushed_between _ (seat_domain c.args.seat.now) (seat_domain c.args.seat.now) g.H.Host.copied _ _ (shelf_of c.take.new.seat) _ _ _ (sent_of c.take.new.seat) _ _ refl refl (ap shelf_in kept.rack) refl (ap (λ (v : Vec _ _). pushed_by v.items) kept.ports) (before.flushed none);
      settled = λ none _. before.settled none (not_err _ _);
      unflushed = λ some. kept.rack ∙ before.unflushed some;
      unpushed = λ some. kept.ports ∙ before.unpushed some;
      unseen = before.unseen;
    }

pub returns-in_err-item-clause-unheard : goal.returns-in_err-item-clause-unheard
returns-in_err-item-clause-unheard g c _ = c.in_err-item.ensures.unheard

pub returns-clause-unheard : goal.returns-clause-unheard
returns-clause-unheard g c memory = absurd (not_memory _ c.build.result c.build.ensures.refused memory)
