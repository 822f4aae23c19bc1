use Rattle.std.proofs.Math.Nat.{le_antisymm}
use Rattle.uma_replay.proofs.NameTotals.{all_seats, no_seat, one_seat_more, seat_few, seat_room_left}
use Rattle.uma_replay.proofs.names.seat_sums.Goals as goal

pub loop-name_work-init : goal.loop-name_work-init
loop-name_work-init g c = no_seat g.N.NameCalls c.args.name_works.now c.none-sums.result c.none-sums.ensures.few c.none-sums.ensures.balance c.none-sums.ensures.none

pub add_sums-requires-clause-room : goal.add_sums-requires-clause-room
add_sums-requires-clause-room g c = seat_room_left g.N.NameCalls c.args.name_works.now c.loop-name_work.name_work-index c.loop-name_work.sums c.loop-name_work-test.true c.requires c.loop-name_work.invariant

pub add_sums-requires-clause-few : goal.add_sums-requires-clause-few
add_sums-requires-clause-few g c = seat_few c.seat_sums.result c.seat_sums.ensures.few

pub loop-name_work-preserved : goal.loop-name_work-preserved
loop-name_work-preserved g c =
    one_seat_more g.N.NameCalls c.args.name_works.now c.loop-name_work.name_work-index c.name_work-item.result c.loop-name_work.sums c.seat_sums.result c.add_sums.new.self c.loop-name_work-test.true c.name_work-item.is c.loop-name_work.invariant
    c.seat_sums.ensures.adds c.seat_sums.ensures.few c.seat_sums.ensures.balance c.add_sums.ensures.adds c.add_sums.ensures.few c.add_sums.ensures.balance

pub returns : goal.returns
returns g c = all_seats g.N.NameCalls c.args.name_works.now c.loop-name_work.name_work-index c.loop-name_work.sums (le_antisymm c.loop-name_work.auto.name_work-index-end c.loop-name_work-test.false) c.loop-name_work.invariant
