use Rattle.std.proofs.Common.{◌≡◌, replicate}
use Rattle.uma_slabs.specs.Room.{empty_room}
use Rattle.uma_slabs.proofs.StandingSets.{AreStandings-empty}
use Rattle.uma_slabs.proofs.rooms.Rooms.new.Goals as goal

pub invariant_of-result : goal.invariant_of-result
invariant_of-result c =
    let rooms : c.in_ok-rooms.rooms.items ≡ replicate c.args.slabs (empty_room c.args.places) = c.in_ok-rooms.ensures in
    rw (rooms, c.empty.ensures, c.empty-2.ensures) (AreStandings-empty c.args.slabs c.args.places c.numbers_below.result c.requires.few_slabs c.requires.some_place c.numbers_below.ensures)
