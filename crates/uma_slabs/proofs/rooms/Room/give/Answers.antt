use Rattle.std.proofs.Common.{false, true, arith, ap}
use Rattle.uma_slabs.proofs.RoomBits.{IsRoom-set, place_within, take-set_at, with_free}
use Rattle.uma_slabs.proofs.rooms.Room.give.Goals as goal

pub set-requires : goal.set-requires
set-requires c =
    let used = rw (← c.self.view_is) at c.requires in
    let within = place_within c.self.inside.places c.self.inside.free c.self.invariant c.args.place false used in
    let few = c.self.invariant.few in
    omega arith

pub invariant_of-self : goal.invariant_of-self
invariant_of-self c =
    let used = rw (← c.self.view_is) at c.requires in
    let within = place_within c.self.inside.places c.self.inside.free c.self.invariant c.args.place false used in
    rw c.set.ensures (IsRoom-set c.self.inside.places c.self.inside.free c.args.place true c.self.invariant within)

pub returns : goal.returns
returns c =
    rw (← c.self.view_is, c.set.ensures) (ap (with_free c.self.inside.domain) (take-set_at c.self.inside.places c.self.inside.free c.args.place true))
