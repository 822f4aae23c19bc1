use Rattle.std.proofs.Common.{None, ap}
use Rattle.uma_slabs.proofs.RoomBits.{take-empty, with_free}
use Rattle.uma_slabs.proofs.rooms.Room.new.Goals as goal

pub returns : goal.returns
returns c = ap (with_free None) (take-empty c.args.places c.empty.result c.requires c.empty.ensures)
