use Rattle.std.proofs.Common.{◌/◌, refl}
use Rattle.uma_slabs.specs.Kept.{keg_of}
use Rattle.uma_slabs.specs.Room.{room_at}
use Rattle.uma_slabs.proofs.RoomPuts.{out_room, gives_back, GivesBack, IsKept-given}
use Rattle.uma_slabs.proofs.places.Places.give.Goals as goal

pub give-requires : goal.give-requires
give-requires c =
    let out = rw (← c.self.view_is) at c.requires in
    let here = out_room c.self.inside c.self.invariant c.args.no out in
    record { within = here.within; used = here.used }

pub invariant_of-self : goal.invariant_of-self
invariant_of-self c =
    let out = rw (← c.self.view_is) at c.requires in
    let here = out_room c.self.inside c.self.invariant c.args.no out in
    rw c.give.ensures (IsKept-given c.self.inside c.self.invariant c.args.no (room_at c.self.inside.rooms (c.args.no / c.self.inside.per_slab)) _ out here.room refl)

-- the change of the fields, as a change of the keg
back : (c : goal.After-self-1) → GivesBack c.args.self.now c.args.no (keg_of c.self.inside.per_slab c.self.inside.cap c.self.inside.made c.give.new.self)
back c =
    let out = rw (← c.self.view_is) at c.requires in
    let here = out_room c.self.inside c.self.invariant c.args.no out in
    let done = gives_back c.self.inside c.self.invariant c.args.no (room_at c.self.inside.rooms (c.args.no / c.self.inside.per_slab)) _ out here.room refl in
    rw (← c.self.view_is, c.give.ensures) done

pub returns : goal.returns
returns c =
    record {
      gives = (back c).gives;
      counts = (back c).counts;
      outs = (back c).outs;
      sound = (back c).sound;
    }
