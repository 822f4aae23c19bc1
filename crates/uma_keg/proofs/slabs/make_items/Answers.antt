use Rattle.std.proofs.Common.{rules, ◌≡◌, below_more, length, arith}
use Rattle.uma_keg.proofs.NewItemSums.{new_pushed}
use Rattle.uma_keg.proofs.Origins.{origins_pushed}
use Rattle.uma_keg.proofs.slabs.make_items.Goals as goal

pub returns-in-Err-clause-stopped : goal.returns-in-Err-clause-stopped
returns-in-Err-clause-stopped g c =
    let made = c.loop-place.places in
    let count : length made.items ≡ c.loop-place.place = omega (arith, made.ok.0, c.loop-place.invariant.len) in
    record {
      fewer = omega (arith, count, c.loop-place-test.true);
      earlier = c.loop-place.invariant.items;
      accepted_earlier = λ place below. c.loop-place.invariant.accepted place (omega (arith, count));
      refused = rw count c.in-Err.ensures.refused;
    }

pub loop-place-preserved : goal.loop-place-preserved
loop-place-preserved g c =
    let made = c.in-Ok-bring.ensures in
    record {
      len = omega arith;
      room = omega arith;
      origins = origins_pushed _ _ _ _ c.push_reserved.ensures.items made.origin c.loop-place.invariant.origins;
      items = new_pushed _ c.loop-place.place _ _ _ c.loop-place.invariant.items (omega (arith, c.loop-place.places.ok.0)) (record { life = made.brought }) c.push_reserved.ensures.items;
      accepted = below_more _ _ c.loop-place.invariant.accepted made.accepted;
    }

pub returns-clause-made : goal.returns-clause-made
returns-clause-made g c = record {
  whole = omega (arith, c.loop-place.places.ok.0, c.loop-place.invariant.len);
  items = search rules;
  origins = search rules;
  accepted = λ place below. c.loop-place.invariant.accepted place (omega arith);
}
