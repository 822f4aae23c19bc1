use Rattle.std.proofs.Common.{◌≡◌, true, is_some, refl, sym, ◌∙◌}
use Rattle.uma_slabs.proofs.RoomBits.{count_of-room}
use Rattle.uma_slabs.proofs.rooms.Room.can_take.Goals as goal

pub returns-then-is_some : goal.returns-then-is_some
returns-then-is_some c =
    let some : is_some c.self.inside.domain ≡ true = sym c.is_some.ensures ∙ c.if-is_some.true in
    rw (← c.self.view_is, some, count_of-room c.self.inside.places c.self.inside.free c.self.invariant, c.count.ensures.count) refl
