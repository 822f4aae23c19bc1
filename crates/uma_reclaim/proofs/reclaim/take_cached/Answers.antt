use Rattle.std.proofs.Common.{sym, ◌∙◌, subst}
use Rattle.uma_life.specs.Cached.{cached_ticket}
use Rattle.uma_bucket.specs.Home.{Home, IsHome}
use Rattle.uma_reclaim.proofs.Seats.{one_usable, same_cached, one_cross, none_cached, still_usable, still_no_cross, taken_of, still_of, none_both, some_both}
use Rattle.uma_reclaim.proofs.reclaim.take_cached.Goals as goal

pub returns-in-Some-clause-takes : goal.returns-in-Some-clause-takes
returns-in-Some-clause-takes g c = record {
  home = subst (λ (x : Home). IsHome x (cached_ticket c.in-Some.item)) c.requires.of_domains.same_home (c.in-Some.ensures.home c.requires.of_domains.top_home).1;
  one = one_usable c.args.seat.now c.try_alloc.new.self c.in-Some.item c.in-Some.ensures.taken c.try_alloc.ensures.plain;
}

pub returns-in-Some-clause-kept : goal.returns-in-Some-clause-kept
returns-in-Some-clause-kept g c =
    let took = c.try_alloc.ensures in
    record {
      seat = taken_of c.args.zone.now c.args.seat.now c.try_alloc.new.self took.same (took.home c.requires.of_domains.top_home).0 took.counts took.misses took.ports c.requires;
      kept = record { same = took.same; freed = took.freed; rack = took.rack; counts = took.counts; misses = took.misses; ports = took.ports };
    }

pub returns-in-None-clause-takes : goal.returns-in-None-clause-takes
returns-in-None-clause-takes g c =
    let old = c.args.seat.now in
    let mid = c.try_alloc.new.self in
    let took = c.try_alloc.ensures in
    let of = taken_of c.args.zone.now old mid took.same (took.home c.requires.of_domains.top_home).0 took.counts took.misses took.ports c.requires in
    some_both c.take_cross.result c.take_cross.ensures.home c.take_cross.ensures.taken (λ item here cross. record {
      home = subst (λ (x : Home). IsHome x (cached_ticket item)) of.of_domains.same_home here;
      one = one_cross mid c.take_cross.new.self item cross c.take_cross.ensures.top ∙ same_cached old mid c.in-None.ensures.taken took.plain;
    })

pub returns-in-None-clause-none : goal.returns-in-None-clause-none
returns-in-None-clause-none g c =
    let old = c.args.seat.now in
    let mid = c.try_alloc.new.self in
    let new = c.take_cross.new.self in
    let left = c.take_cross.ensures in
    none_both c.take_cross.result left.none left.unchanged (λ cross plain. record {
      none = sym (same_cached old mid c.in-None.ensures.taken c.try_alloc.ensures.plain) ∙ none_cached mid c.in-None.ensures.unchanged cross;
      no_usable = still_usable mid new left.same left.top plain c.in-None.ensures.unchanged;
      no_cross = still_no_cross mid new left.same plain cross;
    })

pub returns-in-None-clause-kept : goal.returns-in-None-clause-kept
returns-in-None-clause-kept g c =
    let took = c.try_alloc.ensures in
    let cross = c.take_cross.ensures in
    let mid = taken_of c.args.zone.now c.args.seat.now c.try_alloc.new.self took.same (took.home c.requires.of_domains.top_home).0 took.counts took.misses took.ports c.requires in
    record {
      seat = still_of c.args.zone.now c.try_alloc.new.self c.take_cross.new.self cross.same cross.top cross.counts cross.misses cross.ports mid;
      kept = record {
        same = (cross.same.0 ∙ took.same.0, cross.same.1 ∙ took.same.1);
        freed = cross.freed ∙ took.freed;
        rack = cross.rack ∙ took.rack;
        counts = cross.counts ∙ took.counts;
        misses = cross.misses ∙ took.misses;
        ports = cross.ports ∙ took.ports;
      };
    }
