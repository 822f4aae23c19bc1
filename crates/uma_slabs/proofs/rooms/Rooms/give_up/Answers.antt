use Rattle.std.proofs.Common.{◌≡◌, length, arith, ap}
use Rattle.uma_slabs.specs.Room.{RoomState}
use Rattle.uma_slabs.proofs.StandingSets.{AreStandings-set, some_place}
use Rattle.uma_slabs.proofs.rooms.Rooms.give_up.Goals as goal

pub invariant_of-self : goal.invariant_of-self
invariant_of-self c =
    let rooms = c.self.inside.rooms.items in
    let within = rw (← c.self.view_is) at c.requires in
    let room = c.index_mut-room.result.now in
    let long : length c.give_up.new.self.free ≡ length room.free = ap (λ (r : RoomState). length r.free) c.give_up.ensures in
    let some = some_place rooms c.args.index room c.self.invariant.places within c.index_mut-room.ensures.value in
    AreStandings-set rooms _ _ _ _ _ _ c.args.index c.give_up.new.self c.self.invariant within (omega (arith, long, some)) c.put.ensures.partly_used c.put.ensures.wholly_free c.put.ensures.absent
