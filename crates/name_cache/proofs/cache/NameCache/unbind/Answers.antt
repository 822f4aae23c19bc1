use Rattle.std.proofs.Common.{◌≡◌, [], length, rules}
use Rattle.smr_clock.specs.Belongs.{view}
use Rattle.uma_seat.specs.Seat.{spares_of, shelf_of}
use Rattle.uma_zone.specs.Flushed.{HasLastOf}
use Rattle.name_cache.specs.Cache.{row_count}
use Rattle.name_cache.specs.Calls.{WantsRoom}
use Rattle.name_cache.specs.Room.{MakesRoom}
use Rattle.name_cache.specs.Unbind.{Unbinds}
use Rattle.name_cache.proofs.Ends.{unbinds, finds_unbound}
use Rattle.name_cache.proofs.Passes.{known_then, known_host, same_then}
use Rattle.name_cache.proofs.Rooms.{wants_room}
use Rattle.name_cache.proofs.Telling.{still_host, above_next}
use Rattle.name_cache.proofs.Wanting.{at_err}
use Rattle.name_cache.proofs.cache.NameCache.unbind.Goals as goal

unbinds_so : (g : _) (c : goal.After-free g) → Unbinds (row_count c.args.self.now) c.args.key c.in-Some.value (view c.args.pass.now) c.args.seat.now c.in-Some.receipt (view c.free.new.pass) c.free.new.seat
unbinds_so g c =
    let one = c.make_room.new.seat in
    let room = c.make_room.ensures in
    let shelf : shelf_of one ≡ [] = search rules in
    let spares : length (spares_of one) ≡ 2 = search rules in
    let made : MakesRoom c.args.seat.now one = record { shelf = shelf; spares = spares; same = room.kept.same; top = room.kept.top; plain = room.kept.plain; freed = room.kept.freed; counts = room.kept.counts; misses = room.kept.misses } in
    let v = view c.args.pass.now in
    let v1 = view c.make_room.new.pass in
    unbinds (row_count c.args.self.now) c.args.key c.in-Some.value v v1 (view c.take_out.new.pass) (view c.free.new.pass) c.args.seat.now one c.free.new.seat made (still_host v v1 room.pass.host)
    c.in-Some.receipt c.in-Some.entry c.in-Some.ensures.unbound.in_row c.free.ensures.frees c.free.ensures.kept.pass.host

pub returns-in-Some-clause-unbound : goal.returns-in-Some-clause-unbound
returns-in-Some-clause-unbound g c =
    let b = unbinds_so g c in
    record {
      unbinds = b;
      above = above_next (view c.args.pass.now) (view c.free.new.pass) c.in-Some.receipt b.before b.met b.next;
      since = c.in-Some.ensures.unbound.since;
    }

pub returns-in-None-clause-none : goal.returns-in-None-clause-none
returns-in-None-clause-none g c =
    let one = c.make_room.new.seat in
    let room = c.make_room.ensures in
    let shelf : shelf_of one ≡ [] = search rules in
    let spares : length (spares_of one) ≡ 2 = search rules in
    let made : MakesRoom c.args.seat.now one = record { shelf = shelf; spares = spares; same = room.kept.same; top = room.kept.top; plain = room.kept.plain; freed = room.kept.freed; counts = room.kept.counts; misses = room.kept.misses } in
    let v = view c.args.pass.now in
    let v1 = view c.make_room.new.pass in
    finds_unbound (row_count c.args.self.now) c.args.key v v1 (view c.take_out.new.pass) c.args.seat.now one made (still_host v v1 room.pass.host) c.in-None.ensures.none

pub returns-in_err-make_room-clause-memory : goal.returns-in_err-make_room-clause-memory
returns-in_err-make_room-clause-memory g c =
    let made = c.make_room.ensures in
    let stay : HasLastOf (shelf_of c.args.seat.now) (shelf_of c.make_room.new.seat) = search rules in
    let v = view c.args.pass.now in
    let v1 = view c.make_room.new.pass in
    let wants : WantsRoom c.args.self.now c.args.seat.now c.make_room.new.seat v v1 = record {
      wants = wants_room c.args.seat.now c.make_room.new.seat made.kept.same made.kept.top made.kept.plain made.kept.freed made.kept.counts stay;
      flushed = record { flushed = record { left = v1; flushes = c.make_room.ensures.flushes }; unheard = c.make_room.ensures.pass.host };
    } in
    at_err _ wants

-- ---- what the pass still knows

pub returns-in_err-make_room-clause-kept : goal.returns-in_err-make_room-clause-kept
returns-in_err-make_room-clause-kept g c = record {
  pass = known_host c.args.clock.now c.args.pass.now c.make_room.new.pass c.make_room.ensures.pass;
  seat = record { of_zone = search rules; same = c.make_room.ensures.kept.same };
}

pub returns-in-Some-clause-kept : goal.returns-in-Some-clause-kept
returns-in-Some-clause-kept g c =
    let clock = c.args.clock.now in
    let p = c.args.pass.now in
    let p1 = c.make_room.new.pass in
    let p2 = c.take_out.new.pass in
    let p3 = c.free.new.pass in
    let freed = c.free.ensures.kept in
    record {
      pass = known_then clock p p2 p3 (known_then clock p p1 p2 (known_host clock p p1 c.make_room.ensures.pass) c.take_out.ensures.pass) (known_host clock p2 p3 freed.pass);
      seat = record { of_zone = freed.seat.of_zone; same = same_then c.args.seat.now c.make_room.new.seat c.free.new.seat c.make_room.ensures.kept.same freed.seat.same };
    }

pub returns-in-None-clause-kept : goal.returns-in-None-clause-kept
returns-in-None-clause-kept g c =
    let clock = c.args.clock.now in
    let p = c.args.pass.now in
    let p1 = c.make_room.new.pass in
    record {
      pass = known_then clock p p1 c.take_out.new.pass (known_host clock p p1 c.make_room.ensures.pass) c.take_out.ensures.pass;
      seat = record { of_zone = search rules; same = c.make_room.ensures.kept.same };
    }
