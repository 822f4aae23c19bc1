use Rattle.std.proofs.Common.{Err, ap, sym, refl, rules, ◌∙◌}
use Rattle.std.proofs.lemmas.Result.{err_from_is_err_and}
use Rattle.std.specs.declared.vec.Vec.{Vec}
use Rattle.uma_seat.specs.Rack.{shelf_in}
use Rattle.uma_seat.specs.Seat.{seat_domain, shelf_of, usable_of}
use Rattle.uma_zone.specs.declared.zone.alloc.AllocRefused.{AllocRefused}
use Rattle.uma_zone.specs.Ports.{pushed_by, sent_of}
use Rattle.uma_zone.proofs.Listings.{flushed_between, not_none}
use Rattle.uma_zone.proofs.OneFetch.{takes_of_filled}
use Rattle.uma_zone.proofs.Settled.{as_err, not_err, settled_of}
use Rattle.uma_zone.proofs.zone.Zone.take.Goals as goal

pub returns-clause-taken : goal.returns-clause-taken
returns-clause-taken g c =
    let first = c.in_default.ensures in
    let fill = c.in_ok-fill.ensures in
    let second = c.in-Some-try_alloc.ensures in
    record {
      home = search rules;
      takes = takes_of_filled c.args.self.now c.args.reserve c.args.seat.now c.try_alloc.new.self c.fill.new.seat c.try_alloc-2.new.self c.in-Some-try_alloc.item first.none first.same first.counts first.misses
          first.unchanged fill.kept.same fill.kept.plain fill.filled second.taken.0 second.last second.same second.counts second.misses;
      ledger = search rules;
      top_room = search rules;
    }

pub returns-in-Some-clause-flushes : goal.returns-in-Some-clause-flushes
returns-in-Some-clause-flushes g c =
    let some = not_none (usable_of c.try_alloc.new.self) c.in-Some.item in
    record {
      flushed = λ none. absurd (some (sym c.in-Some.ensures.last ∙ none));
      settled = λ none _. absurd (some (sym c.in-Some.ensures.last ∙ none));
      unflushed = search rules;
      unpushed = search rules;
      unseen = search rules;
    }

pub returns-in_err-fill-clause-flushes : goal.returns-in_err-fill-clause-flushes
returns-in_err-fill-clause-flushes g c =
    let first = c.in_default.ensures in
    let fill = c.in_err-fill.ensures.flushes in
    let told = err_from_is_err_and c.from_residual.result c.from_residual.ensures.1 in
    record {
      flushed = λ _. flushed_between _ (seat_domain c.try_alloc.new.self) (seat_domain c.args.seat.now) g.H.Host.copied _ _ (shelf_of c.fill.new.seat) _ _ _ (sent_of c.fill.new.seat) _ _ (ap (λ (s : _). s.domain) first.same.0) (ap shelf_in first.rack) refl (ap (λ (v : Vec _ _). pushed_by v.items) first.ports) refl fill.flushed;
      settled = λ _ other.
          settled_of c.args.self.now.domains g.H.Host.copied (seat_domain c.try_alloc.new.self) (seat_domain c.args.seat.now) (ap (λ (s : _). s.domain) first.same.0) (fill.settled (λ same. other (told.1 ∙ ap (λ (e : AllocRefused). Err e) told.2 ∙ as_err _ _ same)));
      unflushed = λ some. absurd (some first.none);
      unpushed = λ some. absurd (some first.none);
      unseen = λ some. absurd (some first.none);
    }

pub returns-clause-flushes : goal.returns-clause-flushes
returns-clause-flushes g c =
    let first = c.in_default.ensures in
    let fill = c.in_ok-fill.ensures.flushes in
    let second = c.in-Some-try_alloc.ensures in
    record {
      flushed = λ _. flushed_between _ (seat_domain c.try_alloc.new.self) (seat_domain c.args.seat.now) g.H.Host.copied _ _ (shelf_of c.fill.new.seat) _ _ _ (sent_of c.fill.new.seat) _ _ (ap (λ (s : _). s.domain) first.same.0) (ap shelf_in first.rack) (ap shelf_in second.rack) (ap (λ (v : Vec _ _). pushed_by v.items) first.ports) (ap (λ (v : Vec _ _). pushed_by v.items) second.ports) fill.flushed;
      settled = λ _ _.
          settled_of c.args.self.now.domains g.H.Host.copied (seat_domain c.try_alloc.new.self) (seat_domain c.args.seat.now) (ap (λ (s : _). s.domain) first.same.0) (fill.settled (not_err _ _));
      unflushed = λ some. absurd (some first.none);
      unpushed = λ some. absurd (some first.none);
      unseen = λ some. absurd (some first.none);
    }

pub returns-clause-kept : goal.returns-clause-kept
returns-clause-kept g c = record {
  seat = search rules;
  pass = search rules;
  host = search rules;
  spare = search rules;
  shelf = search rules;
  plain = search rules;
  freed = search rules;
  same = search rules;
}
