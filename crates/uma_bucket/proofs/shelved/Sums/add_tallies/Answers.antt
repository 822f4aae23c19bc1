use Rattle.std.proofs.Common.{◌≤◌, length, arith}
use Rattle.uma_bucket.proofs.Added.{room_left}
use Rattle.uma_bucket.proofs.shelved.Sums.add_tallies.Goals as goal

pub add-requires : goal.add-requires
add-requires g c =
    let few : length c.args.room.now.items ≤ 64 = omega (arith, c.requires.few, c.args.room.now.ok.0) in
    room_left c.args.self.now c.loop-item.self c.args.room.now.items c.loop-item.item-index c.requires.room few c.loop-item.invariant
