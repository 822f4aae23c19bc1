use Rattle.std.proofs.Common.{rules}
use Rattle.uma_seat.proofs.seat.SeatCache.free.Goals as goal

pub returns-then-is_filled_by_one : goal.returns-then-is_filled_by_one
returns-then-is_filled_by_one g c =
    let s = c.shelve.ensures.full in
    record {
      put = search rules;
      rack = search rules;
      full = λ _. record { bucket = s.bucket; room = s.room; is_full = s.is_full; shelf = s.shelf; spares = s.spares; buckets = s.buckets };
      ledger = search rules;
      fetches = search rules;
      fails = search rules;
      same = search rules;
      ports = search rules;
      top = search rules;
      freed = search rules;
      misses = search rules;
    }
