use Rattle.std.proofs.Common.{ap, rules, ◌∙◌}
use Rattle.uma_bucket.specs.Bucket.{items_of}
use Rattle.smr_clock.specs.declared.view.View.{View}
use Rattle.smr_clock.specs.Belongs.{view}
use Rattle.std.specs.declared.vec.Vec.{Vec}
use Rattle.uma_seat.specs.Rack.{shelf_in}
use Rattle.uma_seat.specs.Seat.{seat_domain, shelf_of, top_bucket}
use Rattle.uma_zone.specs.Ports.{pushed_by, sent_of}
use Rattle.uma_zone.specs.Zone.{zone_smr, zone_hooks}
use Rattle.uma_zone.proofs.Fills.{top_empty, told_by_look, found_some, fetched_some, fill_refused}
use Rattle.uma_zone.proofs.Listings.{still_flushed}
use Rattle.uma_zone.proofs.Settled.{at_err}
use Rattle.uma_zone.proofs.Shelves.{none_left}
use Rattle.uma_zone.proofs.zone.Zone.fill.Goals as goal

pub returns-then-look-clause-filled : goal.returns-then-look-clause-filled
returns-then-look-clause-filled g c =
    let flush = c.flush_to_look.ensures in
    let look = c.look.ensures in
    found_some c.args.self.now c.args.reserve c.args.seat.now c.flush_to_look.new.seat c.look.new.seat g.H.Host.merged (view c.flush_to_look.new.pass) (view c.look.new.pass) c.look.result c.if-look.true c.requires.none flush.kept.same look.own flush.kept.counts flush.kept.misses look.kept.counts look.hit look.found look.ripe

pub fetch-requires : goal.fetch-requires
fetch-requires g c = record {
  seat = search rules;
  empty = ap items_of (c.look.ensures.no_top c.if-look.false ∙ c.flush_to_look.ensures.kept.top) ∙ top_empty c.args.seat.now c.requires.none;
  room = search rules;
}

pub returns-clause-refused : goal.returns-clause-refused
returns-clause-refused g c =
    let flush = c.flush_to_look.ensures in
    let look = c.look.ensures in
    fill_refused c.args.self.now c.args.reserve c.args.seat.now c.flush_to_look.new.seat c.look.new.seat c.fetch.new.seat c.fetch.result c.requires.none flush.kept.same flush.kept.plain flush.kept.counts flush.kept.misses look.kept.same look.kept.plain look.kept.counts (look.looked c.if-look.false) (look.missed c.if-look.false)
    c.fetch.ensures.kept.rest c.fetch.ensures.refused

pub returns-then-look-clause-flushes : goal.returns-then-look-clause-flushes
returns-then-look-clause-flushes g c = record {
  shelf = none_left (shelf_of c.args.seat.now) (shelf_of c.look.new.seat) (c.look.ensures.kept.shelf ∙ c.in-Ok.ensures.flushed);
  flushed = still_flushed _ (seat_domain c.args.seat.now) g.H.Host.copied _ (shelf_of c.flush_to_look.new.seat) (shelf_of c.look.new.seat) _ (sent_of c.flush_to_look.new.seat) (sent_of c.look.new.seat) _ c.look.ensures.kept.shelf (ap (λ (v : Vec _ _). pushed_by v.items) c.look.ensures.kept.ports) c.flush_to_look.ensures.flushes;
  settled = λ _. c.in-Ok.ensures.settled;
}

pub returns-clause-flushes : goal.returns-clause-flushes
returns-clause-flushes g c =
    let rest = c.fetch.ensures.kept.rest in
    record {
      shelf = none_left (shelf_of c.args.seat.now) (shelf_of c.fetch.new.seat) (ap shelf_in rest.rack ∙ c.look.ensures.kept.shelf ∙ c.in-Ok.ensures.flushed);
      flushed = still_flushed _ (seat_domain c.args.seat.now) g.H.Host.copied _ (shelf_of c.flush_to_look.new.seat) (shelf_of c.fetch.new.seat) _ (sent_of c.flush_to_look.new.seat) (sent_of c.fetch.new.seat) _ (ap shelf_in rest.rack ∙ c.look.ensures.kept.shelf)
          (ap (λ (v : Vec _ _). pushed_by v.items) (rest.ports ∙ c.look.ensures.kept.ports)) c.flush_to_look.ensures.flushes;
      settled = λ _. c.in-Ok.ensures.settled;
    }

pub returns-clause-filled : goal.returns-clause-filled
returns-clause-filled g c =
    let flush = c.flush_to_look.ensures in
    let look = c.look.ensures in
    fetched_some c.args.self.now c.args.reserve c.args.seat.now c.flush_to_look.new.seat c.look.new.seat c.fetch.new.seat c.fetch.result c.requires.none flush.kept.same flush.kept.counts flush.kept.misses look.kept.counts (look.looked c.if-look.false) (look.missed c.if-look.false)
    c.fetch.ensures.kept.rest c.fetch.ensures.fetched

pub returns-clause-unheard : goal.returns-clause-unheard
returns-clause-unheard g c = at_err c.fetch.result (ap (λ (v : View _). v.host) (c.look.ensures.unseen c.if-look.false) ∙ c.flush_to_look.ensures.pass.host)

pub returns-then-look-clause-kept : goal.returns-then-look-clause-kept
returns-then-look-clause-kept g c =
    let look = c.look.ensures in
    record {
      seat = search rules;
      pass = search rules;
      host = told_by_look c.args.self.now.domains g.H.Host.merged (g.K.Hooks.leaves_dtor (zone_hooks c.args.self.now)) (view c.args.pass.now) (view c.flush_to_look.new.pass) (view c.look.new.pass) (top_bucket c.look.new.seat) (zone_smr c.args.self.now) c.look.result c.if-look.true c.flush_to_look.ensures.pass.host look.ripe look.unseen_plain;
      spare = search rules;
      plain = search rules;
      freed = search rules;
      same = search rules;
    }
