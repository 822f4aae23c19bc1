use Rattle.std.proofs.Common.{◌∙◌, ◌≡◌, ◌%◌, [], length, sym, ap, subst, rules, arith}
use Rattle.std.proofs.lemmas.Result.{err_from_is_err_and}
use Rattle.smr_clock.specs.Belongs.{view}
use Rattle.zone_stats.specs.declared.ledger.SeatLedger.{SeatLedger}
use Rattle.zone_stats.specs.LedgerSteps.{HasRoom, CountsAlloc}
use Rattle.uma_seat.specs.Counts.{ledger_in}
use Rattle.uma_seat.specs.Seat.{ledger_of, seat_domain, spares_of, shelf_of}
use Rattle.uma_zone.specs.Flushed.{HasLastOf}
use Rattle.uma_zone.specs.Ports.{sent_of}
use Rattle.uma_zone.specs.Zone.{lists_of}
use Rattle.uma_zone.proofs.Listings.{still_flushed}
use Rattle.name_rows.specs.Records.{told}
use Rattle.name_cache.specs.declared.binding.Rebound.{Rebound}
use Rattle.name_cache.specs.declared.binding.Rebound.TheVariants.{Refused}
use Rattle.name_cache.specs.Cache.{cache_zone, cache_clock, cache_home, row_count, first_version}
use Rattle.name_cache.specs.LockedRow.{HasItemOf}
use Rattle.name_cache.specs.Rebound.{HasRebound, IsBoundAbove}
use Rattle.name_cache.specs.Bind.{Binds}
use Rattle.name_cache.specs.Room.{MakesRoom}
use Rattle.name_cache.proofs.Ends.{binds, refuses, refuses_none}
use Rattle.name_cache.proofs.Linked.{done_item}
use Rattle.name_cache.proofs.Rooms.{wants_room, flushed_still}
use Rattle.name_cache.proofs.Passes.{known_then, known_host, same_then}
use Rattle.name_cache.proofs.Taking.{room_left}
use Rattle.name_cache.proofs.Telling.{still_host, above_next}
use Rattle.name_cache.proofs.Wanting.{same_err, not_err, row_not_memory}
use Rattle.name_cache.proofs.cache.NameCache.bind.Goals as goal

pub returns-then-is_err-clause-refused : goal.returns-then-is_err-clause-refused
returns-then-is_err-clause-refused g c =
    let made = c.make_room.ensures in
    let stay : HasLastOf (shelf_of c.args.seat.now) (shelf_of c.make_room.new.seat) = search rules in
    wants_room c.args.seat.now c.make_room.new.seat made.kept.same made.kept.top made.kept.plain made.kept.freed made.kept.counts stay

pub rebind-requires : goal.rebind-requires
rebind-requires g c =
    let made = c.make_room.ensures in
    record {
      worker = search rules;
      room = subst (λ (l : SeatLedger). HasRoom l) (ap ledger_in (sym c.make_room.ensures.kept.counts)) c.requires.room.now;
    }

pub returns-in_err-receipt-clause-refused : goal.returns-in_err-receipt-clause-refused
returns-in_err-receipt-clause-refused g c =
    let cache = c.args.self.now in
    let one = c.make_room.new.seat in
    let room = c.make_room.ensures in
    let shelf : shelf_of one ≡ [] = search rules in
    let two : length (spares_of one) ≡ 2 = search rules in
    let made : MakesRoom c.args.seat.now one = record { shelf = shelf; spares = two; same = room.kept.same; top = room.kept.top; plain = room.kept.plain; freed = room.kept.freed; counts = room.kept.counts; misses = room.kept.misses } in
    let v = view c.args.pass.now in
    let v1 = view c.make_room.new.pass in
    let v2 = view c.rebind.new.pass in
    let left = c.rebind.new.seat in
    let p = err_from_is_err_and c.from_residual.result c.from_residual.ensures.1 in
    rw (p.1, p.2)
    (refuses_none (cache_zone cache) (row_count cache) c.args.key c.args.value v v1 v2 v2 c.args.seat.now one left left made (still_host v v1 room.pass.host) c.in_err-receipt.field-0.0
    room.kept.same c.rebind.ensures.kept.seat.freed c.rebind.ensures.kept.seat.shelf c.in_err-receipt.ensures.refused)

pub free_evicted-requires : goal.free_evicted-requires
free_evicted-requires g c =
    let left = c.rebind.new.seat in
    let two : length (spares_of c.make_room.new.seat) ≡ 2 = search rules in
    let more = c.rebind.ensures.kept.seat.spare in
    let clock = cache_clock c.args.self.now in
    let home = cache_home c.args.self.now in
    record {
      worker = record { same_clock = c.requires.worker.same_clock; of_clock = c.rebind.ensures.kept.pass.goes_on.own; of_zone = c.rebind.ensures.kept.seat.of_zone };
      places = record {
        spare = omega (arith, two, more);
        room = room_left (ledger_of c.args.seat.now) (ledger_of left) c.requires.room (subst (λ (l : SeatLedger). CountsAlloc l (ledger_of left)) (ap ledger_in c.make_room.ensures.kept.counts) c.in_ok-receipt.ensures.rebound.counted);
      };
      item = done_item clock home c.in-Done.receipt c.in-Done.evicted (subst (λ (r : Rebound). HasItemOf clock home r) c.in-Done.is c.in_ok-receipt.ensures.rebound.items);
    }

binds_so : (g : _) (c : goal.After-free_evicted g) → Binds (cache_zone c.args.self.now) (row_count c.args.self.now) c.args.key c.args.value (view c.args.pass.now) c.args.seat.now c.in-Done.receipt (view c.free_evicted.new.pass) c.free_evicted.new.seat
binds_so g c =
    let cache = c.args.self.now in
    let one = c.make_room.new.seat in
    let two = c.rebind.new.seat in
    let room = c.make_room.ensures in
    let shelf : shelf_of one ≡ [] = search rules in
    let spares : length (spares_of one) ≡ 2 = search rules in
    let made : MakesRoom c.args.seat.now one = record { shelf = shelf; spares = spares; same = room.kept.same; top = room.kept.top; plain = room.kept.plain; freed = room.kept.freed; counts = room.kept.counts; misses = room.kept.misses } in
    let done = c.in_ok-receipt.ensures.rebound in
    let kept = c.rebind.ensures.kept.seat in
    let v = view c.args.pass.now in
    let v1 = view c.make_room.new.pass in
    let v2 = view c.rebind.new.pass in
    let h = subst (λ (r : Rebound). HasRebound (cache_zone cache) (row_count cache) c.args.key c.args.value v1 one r v2 two) c.in-Done.is done.in_row in
    binds (cache_zone cache) (row_count cache) c.args.key c.args.value v v1 v2 (view c.free_evicted.new.pass) c.args.seat.now one two c.free_evicted.new.seat made (still_host v v1 room.pass.host)
    c.in-Done.receipt c.in-Done.evicted h done.counted kept.freed kept.shelf c.free_evicted.ensures.frees c.free_evicted.ensures.kept.pass.host

pub returns-in-Done-clause-bound : goal.returns-in-Done-clause-bound
returns-in-Done-clause-bound g c =
    let b = binds_so g c in
    record {
      binds = b;
      above = above_next (view c.args.pass.now) (view c.free_evicted.new.pass) c.in-Done.receipt b.before b.met b.next;
      since = subst (λ (r : Rebound). IsBoundAbove (first_version c.args.self.now (c.args.key % row_count c.args.self.now)) r) c.in-Done.is c.in_ok-receipt.ensures.rebound.since;
    }

pub free-requires : goal.free-requires
free-requires g c =
    let left = c.rebind.new.seat in
    let two : length (spares_of c.make_room.new.seat) ≡ 2 = search rules in
    let more = c.rebind.ensures.kept.seat.spare in
    let clock = cache_clock c.args.self.now in
    let home = cache_home c.args.self.now in
    record {
      worker = record { same_clock = c.requires.worker.same_clock; of_clock = c.rebind.ensures.kept.pass.goes_on.own; of_zone = c.rebind.ensures.kept.seat.of_zone };
      places = record {
        spare = omega (arith, two, more);
        room = room_left (ledger_of c.args.seat.now) (ledger_of left) c.requires.room (subst (λ (l : SeatLedger). CountsAlloc l (ledger_of left)) (ap ledger_in c.make_room.ensures.kept.counts) c.in_ok-receipt.ensures.rebound.counted);
      };
      item = subst (λ (r : Rebound). HasItemOf clock home r) c.in-Refused.is c.in_ok-receipt.ensures.rebound.items;
    }

pub returns-in-Refused-clause-refused : goal.returns-in-Refused-clause-refused
returns-in-Refused-clause-refused g c =
    let cache = c.args.self.now in
    let one = c.make_room.new.seat in
    let two = c.rebind.new.seat in
    let room = c.make_room.ensures in
    let shelf : shelf_of one ≡ [] = search rules in
    let spares : length (spares_of one) ≡ 2 = search rules in
    let made : MakesRoom c.args.seat.now one = record { shelf = shelf; spares = spares; same = room.kept.same; top = room.kept.top; plain = room.kept.plain; freed = room.kept.freed; counts = room.kept.counts; misses = room.kept.misses } in
    let done = c.in_ok-receipt.ensures.rebound in
    let kept = c.rebind.ensures.kept.seat in
    let v = view c.args.pass.now in
    let v1 = view c.make_room.new.pass in
    let v2 = view c.rebind.new.pass in
    let h = subst (λ (r : Rebound). HasRebound (cache_zone cache) (row_count cache) c.args.key c.args.value v1 one r v2 two) c.in-Refused.is done.in_row in
    refuses (cache_zone cache) (row_count cache) c.args.key c.args.value v v1 v2 (view c.free.new.pass) c.args.seat.now one two c.free.new.seat made (still_host v v1 room.pass.host)
    c.in-Refused.entry c.free.ensures.frees done.counted kept.freed kept.shelf c.free.ensures.kept.pass.host c.in-Refused.refused h

-- ---- what the pass still knows

pub returns-then-is_err-clause-kept : goal.returns-then-is_err-clause-kept
returns-then-is_err-clause-kept g c = record {
  pass = known_host c.args.clock.now c.args.pass.now c.make_room.new.pass c.make_room.ensures.pass;
  seat = record { of_zone = search rules; same = c.make_room.ensures.kept.same };
}

pub returns-in_err-receipt-clause-kept : goal.returns-in_err-receipt-clause-kept
returns-in_err-receipt-clause-kept g c =
    let clock = c.args.clock.now in
    let p = c.args.pass.now in
    let p1 = c.make_room.new.pass in
    let left = c.rebind.ensures.kept.seat in
    record {
      pass = known_then clock p p1 c.rebind.new.pass (known_host clock p p1 c.make_room.ensures.pass) c.rebind.ensures.kept.pass;
      seat = record { of_zone = left.of_zone; same = same_then c.args.seat.now c.make_room.new.seat c.rebind.new.seat c.make_room.ensures.kept.same left.same };
    }

pub returns-in-Done-clause-kept : goal.returns-in-Done-clause-kept
returns-in-Done-clause-kept g c =
    let clock = c.args.clock.now in
    let p = c.args.pass.now in
    let p1 = c.make_room.new.pass in
    let p2 = c.rebind.new.pass in
    let p3 = c.free_evicted.new.pass in
    let s = c.args.seat.now in
    let s2 = c.rebind.new.seat in
    let freed = c.free_evicted.ensures.kept in
    record {
      pass = known_then clock p p2 p3 (known_then clock p p1 p2 (known_host clock p p1 c.make_room.ensures.pass) c.rebind.ensures.kept.pass) (known_host clock p2 p3 freed.pass);
      seat = record { of_zone = freed.seat.of_zone; same = same_then s s2 c.free_evicted.new.seat (same_then s c.make_room.new.seat s2 c.make_room.ensures.kept.same c.rebind.ensures.kept.seat.same) freed.seat.same };
    }

pub returns-in-Refused-clause-kept : goal.returns-in-Refused-clause-kept
returns-in-Refused-clause-kept g c =
    let clock = c.args.clock.now in
    let p = c.args.pass.now in
    let p1 = c.make_room.new.pass in
    let p2 = c.rebind.new.pass in
    let p3 = c.free.new.pass in
    let s = c.args.seat.now in
    let s2 = c.rebind.new.seat in
    let freed = c.free.ensures.kept in
    record {
      pass = known_then clock p p2 p3 (known_then clock p p1 p2 (known_host clock p p1 c.make_room.ensures.pass) c.rebind.ensures.kept.pass) (known_host clock p2 p3 freed.pass);
      seat = record { of_zone = freed.seat.of_zone; same = same_then s s2 c.free.new.seat (same_then s c.make_room.new.seat s2 c.make_room.ensures.kept.same c.rebind.ensures.kept.seat.same) freed.seat.same };
    }

-- ---- where memory was wanting

pub returns-then-is_err-clause-flushed : goal.returns-then-is_err-clause-flushed
returns-then-is_err-clause-flushed g c _ = record { flushed = record { left = view c.make_room.new.pass; flushes = c.make_room.ensures.flushes }; unheard = c.make_room.ensures.pass.host }

pub returns-in_err-receipt-clause-flushed : goal.returns-in_err-receipt-clause-flushed
returns-in_err-receipt-clause-flushed g c memory =
    let one = c.make_room.new.seat in
    let two = c.rebind.new.seat in
    let shelf : shelf_of one ≡ [] = search rules in
    let p = err_from_is_err_and c.from_residual.result c.from_residual.ensures.1 in
    let none = flushed_still (shelf_of one) (shelf_of two) shelf c.rebind.ensures.kept.seat.shelf in
    let wants = c.in_err-receipt.ensures.memory (same_err c.from_residual.result p.0 _ _ p.1 p.2 memory) in
    record {
      flushed = still_flushed (lists_of (cache_zone c.args.self.now)) (seat_domain c.args.seat.now) told (shelf_of c.args.seat.now) (shelf_of one) (shelf_of two) (sent_of c.args.seat.now) (sent_of one) (sent_of two) (view c.args.pass.now) (none ∙ sym shelf)
          (wants.unsent shelf) (record { left = view c.make_room.new.pass; flushes = c.make_room.ensures.flushes });
      unheard = wants.unheard ∙ c.make_room.ensures.pass.host;
    }

pub returns-in-Done-clause-flushed : goal.returns-in-Done-clause-flushed
returns-in-Done-clause-flushed g c memory = absurd (not_err _ _ memory)

refused_so : (g : _) (c : goal.After-free g) → HasRebound (cache_zone c.args.self.now) (row_count c.args.self.now) c.args.key c.args.value (view c.make_room.new.pass) c.make_room.new.seat (Refused c.in-Refused.entry c.in-Refused.refused) (view c.rebind.new.pass) c.rebind.new.seat
refused_so g c =
    subst (λ (r : Rebound). HasRebound (cache_zone c.args.self.now) (row_count c.args.self.now) c.args.key c.args.value (view c.make_room.new.pass) c.make_room.new.seat r (view c.rebind.new.pass) c.rebind.new.seat) c.in-Refused.is c.in_ok-receipt.ensures.rebound.in_row

pub returns-in-Refused-clause-flushed : goal.returns-in-Refused-clause-flushed
returns-in-Refused-clause-flushed g c memory = absurd (row_not_memory _ _ _ _ _ _ _ _ _ _ (refused_so g c) memory)
