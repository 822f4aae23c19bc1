use Rattle.std.proofs.Common.{◌≡◌, true, refl, sym, ◌∙◌}
use Rattle.uma_slabs.specs.Room.{can_take}
use Rattle.uma_slabs.proofs.RoomBits.{count_of-room, length_of-room}
use Rattle.uma_slabs.proofs.rooms.Room.is_partly_used.Goals as goal

pub returns-then-can_take : goal.returns-then-can_take
returns-then-can_take c =
    let can : can_take c.args.self.now ≡ true = sym c.can_take.ensures ∙ c.if-can_take.true in
    let count = count_of-room c.self.inside.places c.self.inside.free c.self.invariant in
    let long = length_of-room c.self.inside.places c.self.inside.free c.self.invariant in
    rw (can, ← c.self.view_is, count, long, c.count.ensures.count) refl
