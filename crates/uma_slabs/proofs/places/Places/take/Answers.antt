use Rattle.std.proofs.Common.{rules, ◌≡◌, ◌+◌, ◌*◌, arith, refl}
use Rattle.uma_slabs.specs.Kept.{keg_of}
use Rattle.uma_slabs.specs.Places.{free_count}
use Rattle.uma_slabs.specs.Room.{room_at}
use Rattle.uma_slabs.proofs.RoomTakes.{taken_at, with_used, takes_out, TakesOut, IsTakenFrom, IsKept-taken, number_fits, free_count-none, free_count-no_place}
use Rattle.uma_slabs.proofs.places.Places.take.Goals as goal

-- no place is free where no room was chosen
none_free : (c : goal.After-from_residual) → free_count c.args.self.now ≡ 0
none_free c = rw (← c.self.view_is) (free_count-none c.self.inside c.in_err-index.ensures.none)

pub returns-in_err-index : goal.returns-in_err-index
returns-in_err-index c =
    record {
      takes = search rules;
      counts = search rules;
      outs = search rules;
      within = search rules;
      none_exactly = (λ _. none_free c, λ _. rw c.from_residual.ensures refl);
      none = rw c.from_residual.ensures (free_count-no_place c.args.self.now (none_free c));
      unchanged = search rules;
      sound = search rules;
    }

pub take-place-requires : goal.take-place-requires
take-place-requires c = record { within = c.in_ok-index.ensures.chosen.within; free = c.in_ok-index.ensures.chosen.can _ }

-- the room that was chosen is taken from by the rule
from_sub : (c : goal.After-take-place) → IsTakenFrom c.self.inside c.in_ok-index.index c.take-place.result (room_at c.self.inside.rooms c.in_ok-index.index) (with_used (room_at c.self.inside.rooms c.in_ok-index.index) c.take-place.result)
from_sub c = taken_at c.self.inside c.self.invariant c.in_ok-index.index c.take-place.result c.in_ok-index.ensures.chosen c.take-place.ensures.free c.take-place.ensures.least

from : (c : goal.After-self-1) → IsTakenFrom c.self.inside c.in_ok-index.index c.take-place.result (room_at c.self.inside.rooms c.in_ok-index.index) (with_used (room_at c.self.inside.rooms c.in_ok-index.index) c.take-place.result)
from c = taken_at c.self.inside c.self.invariant c.in_ok-index.index c.take-place.result c.in_ok-index.ensures.chosen c.take-place.ensures.free c.take-place.ensures.least

pub overflow_sub-self : goal.overflow_sub-self
overflow_sub-self c =
    let out = takes_out c.self.inside c.self.invariant c.in_ok-index.index c.take-place.result (room_at c.self.inside.rooms c.in_ok-index.index) (with_used (room_at c.self.inside.rooms c.in_ok-index.index) c.take-place.result) (from_sub c) in
    let counted = out.counts.free in
    let kept = c.self.invariant.free in
    omega (arith, counted, kept)

pub overflow_add-result : goal.overflow_add-result
overflow_add-result c =
    let fits = number_fits c.self.inside c.self.invariant c.in_ok-index.index c.take-place.result (room_at c.self.inside.rooms c.in_ok-index.index) (with_used (room_at c.self.inside.rooms c.in_ok-index.index) c.take-place.result) (from c) in
    omega (arith, fits)

pub invariant_of-self : goal.invariant_of-self
invariant_of-self c = rw c.take-place.ensures.used (IsKept-taken c.self.inside c.self.invariant c.in_ok-index.index c.take-place.result (room_at c.self.inside.rooms c.in_ok-index.index) (with_used (room_at c.self.inside.rooms c.in_ok-index.index) c.take-place.result) (from c))

-- the change of the fields, as a change of the keg
out : (c : goal.After-self-1) → TakesOut c.args.self.now (c.in_ok-index.index * c.self.inside.per_slab + c.take-place.result) (keg_of c.self.inside.per_slab c.self.inside.cap c.self.inside.made c.take-place.new.self)
out c =
    let done = takes_out c.self.inside c.self.invariant c.in_ok-index.index c.take-place.result (room_at c.self.inside.rooms c.in_ok-index.index) (with_used (room_at c.self.inside.rooms c.in_ok-index.index) c.take-place.result) (from c) in
    rw (← c.self.view_is, c.take-place.ensures.used) done

pub returns : goal.returns
returns c =
    record {
      takes = (out c).takes;
      counts = (out c).counts;
      outs = (out c).outs;
      within = (out c).within;
      none_exactly =
          let counted = (out c).counts.free in
          (λ e. cc, λ e. absurd (omega (arith, counted, e)));
      none = search rules;
      unchanged = search rules;
      sound = (out c).sound;
    }
