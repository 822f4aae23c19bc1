use Rattle.std.proofs.Common.{rules, [], ◌∷◌, ◌++◌, length-append, refl, ◌∙◌, arith}
use Rattle.std.proofs.lemmas.List.Elements.{All-nil, All-push}
use Rattle.uma_zone.specs.KegStates.{GivesItem}
use Rattle.uma_reclaim.specs.Cached.{cached_in}
use Rattle.uma_reclaim.proofs.Rows.{counted_more}
use Rattle.uma_reclaim.proofs.reclaim.give_cached.Goals as goal

pub loop-item-init : goal.loop-item-init
loop-item-init g c = record {
  seat = c.requires;
  fewer = omega arith;
  given = omega arith;
  gave = record { items = []; as_many = omega arith; given = All-nil (GivesItem c.args.zone.now) };
  kept = record { same = (refl, refl); freed = refl; rack = refl; counts = refl; misses = refl; ports = refl };
}

pub loop-item-preserved : goal.loop-item-preserved
loop-item-preserved g c =
    let before = c.loop-item.invariant in
    let took = c.take_cached.ensures.kept in
    let now = c.take_cached.new.seat in
    let one = c.in-Some.ensures.takes.one in
    record {
      seat = took.seat;
      fewer = omega (arith, one, before.fewer);
      given = counted_more (cached_in c.args.seat.now) (cached_in c.loop-item.seat) 1 (cached_in now) c.loop-item.count c.saturating_add-count.result before.fewer before.given (omega (arith, one)) c.saturating_add-count.ensures;
      gave = record {
        items = before.gave.items ++ c.in-Some.item ∷ [];
        as_many = let long = length-append before.gave.items (c.in-Some.item ∷ []) in omega (arith, one, long, before.fewer, before.gave.as_many);
        given = All-push (GivesItem c.args.zone.now) before.gave.items c.in-Some.item before.gave.given c.give_one.ensures.given;
      };
      kept = record {
        same = (took.kept.same.0 ∙ before.kept.same.0, took.kept.same.1 ∙ before.kept.same.1);
        freed = took.kept.freed ∙ before.kept.freed;
        rack = took.kept.rack ∙ before.kept.rack;
        counts = took.kept.counts ∙ before.kept.counts;
        misses = took.kept.misses ∙ before.kept.misses;
        ports = took.kept.ports ∙ before.kept.ports;
      };
    }

pub returns : goal.returns
returns g c =
    let none = c.in_default.ensures.none in
    let gave = c.loop-item.invariant.gave in
    record {
      count = omega (arith, none.none, c.loop-item.invariant.given);
      given = record { items = gave.items; as_many = omega (arith, none.none, gave.as_many); given = gave.given };
      no_usable = none.no_usable;
      no_cross = none.no_cross;
      seat = search rules;
      kept = search rules;
    }
