use Rattle.std.proofs.Common.{rules, Err, ap}
use Rattle.std.proofs.lemmas.Result.{err_from_is_err_and}
use Rattle.smr_clock.specs.Belongs.{view}
use Rattle.uma_seat.specs.Seat.{seat_domain, shelf_of}
use Rattle.uma_zone.specs.Ports.{sent_of}
use Rattle.uma_zone.specs.Zone.{lists_of}
use Rattle.name_rows.specs.Records.{told}
use Rattle.name_cache.specs.Cache.{cache_zone}
use Rattle.name_cache.proofs.Wanting.{memory_of, not_err, nothing_sent, none_usable}
use Rattle.name_cache.proofs.Telling.{still_taken}
use Rattle.name_cache.proofs.cache.NameCache.take_entry.Goals as goal

pub returns-in_err-live-clause-kept : goal.returns-in_err-live-clause-kept
returns-in_err-live-clause-kept g c = record {
  pass = record {
    goes_on = c.alloc.ensures.kept.pass;
    still = still_taken (view c.args.pass.now) (view c.alloc.new.pass) c.alloc.ensures.kept.host;
  };
  seat = record { of_zone = search rules; same = search rules; freed = search rules; spare = search rules; shelf = search rules };
}

pub returns-clause-kept : goal.returns-clause-kept
returns-clause-kept g c = record {
  pass = record {
    goes_on = c.alloc.ensures.kept.pass;
    still = still_taken (view c.args.pass.now) (view c.alloc.new.pass) c.alloc.ensures.kept.host;
  };
  seat = record { of_zone = search rules; same = search rules; freed = search rules; spare = search rules; shelf = search rules };
}

pub returns-clause-handed : goal.returns-clause-handed
returns-clause-handed g c = record {
  out = record { handed = c.in_ok-live.live; served = c.in_ok-live.ensures.served.serves; words = c.parts_of.ensures.words; ticket = c.parts_of.ensures.ticket };
  item = c.parts_of.ensures.item;
  counted = c.in_ok-live.ensures.served.serves.counted;
}

pub returns-in_err-live-clause-memory : goal.returns-in_err-live-clause-memory
returns-in_err-live-clause-memory g c memory =
    let p = err_from_is_err_and c.from_residual.result c.from_residual.ensures.1 in
    let why = memory_of c.from_residual.result p.0 c.in_err-live.field-0.0 p.1 p.2 memory in
    let wants = none_usable (cache_zone c.args.self.now) c.args.seat.now c.alloc.new.seat c.in_err-live.field-0.0 why c.in_err-live.ensures.refused in
    record {
      unsent = λ none. nothing_sent (lists_of (cache_zone c.args.self.now)) (seat_domain c.args.seat.now) told (shelf_of c.args.seat.now) (shelf_of c.alloc.new.seat) (sent_of c.args.seat.now) (sent_of c.alloc.new.seat) (view c.args.pass.now) none (c.alloc.ensures.flushes.flushed wants.empty);
      unheard = c.in_err-live.ensures.unheard (ap Err why);
    }

pub returns-clause-memory : goal.returns-clause-memory
returns-clause-memory g c memory = absurd (not_err _ _ memory)
