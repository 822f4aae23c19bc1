use Rattle.std.proofs.Common.{rules, ◌≤◌, ◌+◌, ◌*◌, ◌^◌, length, arith}
use Rattle.uma_seat.specs.Row.{row_len, freed_len}
use Rattle.uma_seat.specs.Rack.{shelf_in}
use Rattle.uma_seat.specs.Seating.{home_of}
use Rattle.uma_seat.proofs.SumSteps.{widen, top_room, rows_room, row_small, freed_small}
use Rattle.uma_seat.proofs.seat.SeatCache.sums.Goals as goal

pub add_to-requires-2 : goal.add_to-requires-2
add_to-requires-2 g c =
    let seat = c.args.self.now in
    record {
      room = widen 64 (2 ^ 61) _ (omega arith) (top_room _ _ seat.top (c.none-sums.ensures.few 0) c.add_to.ensures.few);
      domains = row_small seat.seating.smr (row_len seat.plain) seat.seating.domains seat.plain_buckets seat.seating.few;
    }

pub add_to-requires-3 : goal.add_to-requires-3
add_to-requires-3 g c =
    let seat = c.args.self.now in
    let plain = row_small seat.seating.smr (row_len seat.plain) seat.seating.domains seat.plain_buckets seat.seating.few in
    record {
      room = widen (64 + 64 * 4) (2 ^ 61) _ (omega arith) (rows_room _ _ 64 (row_len seat.plain) 4 (top_room _ _ seat.top (c.none-sums.ensures.few 0) c.add_to.ensures.few) c.add_to-2.ensures.few plain);
      domains = freed_small seat.seating.smr (freed_len seat.freed) seat.seating.domains seat.freed_buckets seat.seating.few;
    }

pub add_to-requires-4 : goal.add_to-requires-4
add_to-requires-4 g c =
    let seat = c.args.self.now in
    let plain = row_small seat.seating.smr (row_len seat.plain) seat.seating.domains seat.plain_buckets seat.seating.few in
    let freed = freed_small seat.seating.smr (freed_len seat.freed) seat.seating.domains seat.freed_buckets seat.seating.few in
    widen (64 + 64 * 4 + 64 * 4) (2 ^ 61) _ (omega arith)
    (rows_room _ _ (64 + 64 * 4) (freed_len seat.freed) 4 (rows_room _ _ 64 (row_len seat.plain) 4 (top_room _ _ seat.top (c.none-sums.ensures.few 0) c.add_to.ensures.few) c.add_to-2.ensures.few plain) c.add_to-3.ensures.few freed)

pub returns : goal.returns
returns g c =
    let seat = c.args.self.now in
    let plain = row_small seat.seating.smr (row_len seat.plain) seat.seating.domains seat.plain_buckets seat.seating.few in
    let freed = freed_small seat.seating.smr (freed_len seat.freed) seat.seating.domains seat.freed_buckets seat.seating.few in
    let shelf : length (shelf_in seat.rack) ≤ 2 = omega (arith, seat.rack.few, seat.rack.shelf.ok.0) in
    let home = home_of seat.seating in
    record {
      adds = search rules;
      few =
          rows_room _ _ (64 + 64 * 4 + 64 * 4) (length (shelf_in seat.rack)) 2
          (rows_room _ _ (64 + 64 * 4) (freed_len seat.freed) 4 (rows_room _ _ 64 (row_len seat.plain) 4 (top_room _ _ seat.top (c.none-sums.ensures.few 0) c.add_to.ensures.few) c.add_to-2.ensures.few plain) c.add_to-3.ensures.few freed) c.add_to-4.ensures.few shelf;
      balance = λ homes.
          c.add_to-4.ensures.balance home seat.shelf_home
          (c.add_to-3.ensures.balance home seat.freed_home (c.add_to-2.ensures.balance home seat.plain_home (c.add_to.ensures.balance home homes (c.none-sums.ensures.balance home.zone))));
    }
