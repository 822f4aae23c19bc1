use Rattle.std.proofs.Common.{rules, ◌+◌, ◌^◌, ◌≤◌, arith, refl, inl, inr}
use Rattle.uma_slabs.specs.Dropping.{IsUsedUp}
use Rattle.uma_slabs.specs.Kept.{keg_of}
use Rattle.uma_slabs.specs.Places.{KegPlaces}
use Rattle.uma_slabs.specs.Room.{room_at}
use Rattle.uma_slabs.proofs.Dropping.{DropsSlab}
use Rattle.uma_slabs.proofs.RoomDrops.{IsGivenUp, given_up_at, no_slab_in, drops_room, IsKept-dropped, HasNoneWhollyFree-rooms}
use Rattle.uma_slabs.proofs.places.Places.drop_slab.Goals as goal
use Rattle.uma_slabs.proofs.places.Places.drop_slab.Goals.{After-self-2-1}

pub returns-in_err-index : goal.returns-in_err-index
returns-in_err-index c =
    record {
      drops = search rules;
      counts = search rules;
      outs = search rules;
      none_exactly =
          let none = c.in_err-index.ensures.none in
          (λ _. inr (rw (← c.self.view_is) (HasNoneWhollyFree-rooms c.self.inside c.self.invariant none)), λ _. rw c.from_residual.ensures refl);
      unchanged = search rules;
      sound = search rules;
    }

pub overflow_sub-self : goal.overflow_sub-self
overflow_sub-self c =
    let few = c.self.invariant.sound.few_slabs in
    let is = given_up_at c.self.inside c.in_ok-index.index c.in_ok-index.ensures.last (omega arith) in
    let counted = (drops_room c.self.inside c.self.invariant c.in_ok-index.index (room_at c.self.inside.rooms c.in_ok-index.index) (no_slab_in (room_at c.self.inside.rooms c.in_ok-index.index)) is).counts.slabs in
    let kept = c.self.invariant.slabs in
    omega arith

pub overflow_sub-self-2 : goal.overflow_sub-self-2
overflow_sub-self-2 c =
    let few = c.self.invariant.sound.few_slabs in
    let is = given_up_at c.self.inside c.in_ok-index.index c.in_ok-index.ensures.last (omega arith) in
    let counted = (drops_room c.self.inside c.self.invariant c.in_ok-index.index (room_at c.self.inside.rooms c.in_ok-index.index) (no_slab_in (room_at c.self.inside.rooms c.in_ok-index.index)) is).counts.free in
    let kept = c.self.invariant.free in
    omega arith

given_up : (c : After-self-2-1) → IsGivenUp c.self.inside c.in_ok-index.index (room_at c.self.inside.rooms c.in_ok-index.index) (no_slab_in (room_at c.self.inside.rooms c.in_ok-index.index))
given_up c =
    let few = c.self.invariant.sound.few_slabs in
    given_up_at c.self.inside c.in_ok-index.index c.in_ok-index.ensures.last (omega arith)

pub invariant_of-self : goal.invariant_of-self
invariant_of-self c = rw c.give_up.ensures (IsKept-dropped c.self.inside c.self.invariant c.in_ok-index.index (room_at c.self.inside.rooms c.in_ok-index.index) (no_slab_in (room_at c.self.inside.rooms c.in_ok-index.index)) (given_up c))

-- the change of the fields, as a change of the keg
gone : (c : After-self-2-1) → DropsSlab c.args.self.now c.in_ok-index.index (keg_of c.self.inside.per_slab c.self.inside.cap c.self.inside.made c.give_up.new.self)
gone c =
    let done = drops_room c.self.inside c.self.invariant c.in_ok-index.index (room_at c.self.inside.rooms c.in_ok-index.index) (no_slab_in (room_at c.self.inside.rooms c.in_ok-index.index)) (given_up c) in
    rw (← c.self.view_is, c.give_up.ensures) done

-- a slab was given up, so one was wholly free, and not too many were made
not_used_up : (k : KegPlaces) → k.made + k.cap ≤ 2 ^ 40 → IsUsedUp k → ⊥
not_used_up k not_used used_up = omega arith

pub returns : goal.returns
returns c =
    record {
      drops = (gone c).drops;
      counts = (gone c).counts;
      outs = (gone c).outs;
      none_exactly =
          let not_used : c.args.self.now.made + c.args.self.now.cap ≤ 2 ^ 40 = rw (← c.self.view_is) (given_up c).not_used in (
            λ e. absurd (cc),
            λ either. absurd (elim either [
              | inl used_up ↦ not_used_up c.args.self.now not_used used_up
              | inr none ↦ none c.in_ok-index.index (gone c).drops.whole
            ]),
          );
      unchanged = search rules;
      sound = (gone c).sound;
    }
