use Rattle.uma_replay.proofs.NameTotals.{name_sums_of, of_seats, rest_room}
use Rattle.uma_replay.proofs.names.name_sums.Goals as goal

pub add_sums-requires-clause-room : goal.add_sums-requires-clause-room
add_sums-requires-clause-room g c = rest_room c.in_ok-sums.sums c.in_ok-sums.ensures.few

pub add_sums-requires-clause-few : goal.add_sums-requires-clause-few
add_sums-requires-clause-few g c = rest_room c.seat_sums-seats.result (of_seats g.N.NameCalls c.args.name_works.now c.seat_sums-seats.result c.requires.fit.few c.seat_sums-seats.ensures)

pub returns : goal.returns
returns g c =
    name_sums_of g.N.NameCalls c.args.cache.now c.args.name_works.now c.in_ok-sums.sums c.seat_sums-seats.result c.add_sums.new.self c.requires.fit.few c.requires.fit.seats c.seat_sums-seats.ensures
    c.in_ok-sums.ensures.few c.in_ok-sums.ensures.linked c.add_sums.ensures.adds c.add_sums.ensures.few
