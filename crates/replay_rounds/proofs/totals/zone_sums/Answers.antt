use Rattle.std.proofs.Common.{refl}
use Rattle.std.proofs.Math.Nat.{le_antisymm}
use Rattle.std.proofs.lemmas.Option.{slice_get_read}
use Rattle.replay_rounds.proofs.Summed.{none_so_far, one_more_seat, all_seats, room_so_far, room_of_seat, within_seats}
use Rattle.replay_rounds.proofs.totals.zone_sums.Goals as goal

pub loop-worker-init : goal.loop-worker-init
loop-worker-init g c = none_so_far c.args.zone.now c.args.place c.args.workers.now c.in-Ok.sums c.in-Ok.ensures.few c.in-Ok.ensures.balance

pub seat_sums-requires : goal.seat_sums-requires
seat_sums-requires g c =
    let w = c.worker-item.result in
    let at = slice_get_read c.args.workers.now _ c.loop-worker.worker-index w refl c.loop-worker-test.true c.worker-item.is in
    within_seats c.args.zone.now c.args.place w (c.requires.seats c.loop-worker.worker-index w at)

pub add_sums-requires-clause-room : goal.add_sums-requires-clause-room
add_sums-requires-clause-room g c = room_so_far c.args.zone.now c.args.place c.loop-worker.worker-index c.args.workers.now c.loop-worker.sums c.loop-worker-test.true c.requires.few c.loop-worker.invariant

pub add_sums-requires-clause-few : goal.add_sums-requires-clause-few
add_sums-requires-clause-few g c = room_of_seat c.args.place c.worker-item.result c.seat_sums.result c.seat_sums.ensures

pub loop-worker-preserved : goal.loop-worker-preserved
loop-worker-preserved g c =
    let w = c.worker-item.result in
    let at = slice_get_read c.args.workers.now _ c.loop-worker.worker-index w refl c.loop-worker-test.true c.worker-item.is in
    one_more_seat c.args.zone.now c.args.place c.args.workers.now c.loop-worker.worker-index w c.loop-worker.sums c.seat_sums.result c.add_sums.new.self c.loop-worker-test.true c.worker-item.is
    (c.requires.seats c.loop-worker.worker-index w at) c.loop-worker.invariant c.seat_sums.ensures c.add_sums.ensures.adds c.add_sums.ensures.few c.add_sums.ensures.balance

pub returns : goal.returns
returns g c = all_seats c.args.zone.now c.args.place c.args.workers.now c.loop-worker.worker-index c.loop-worker.sums (le_antisymm c.loop-worker.auto.worker-index-end c.loop-worker-test.false) c.requires.few c.loop-worker.invariant
