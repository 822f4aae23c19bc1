use Rattle.std.proofs.Common.{rules, subst}
use Rattle.smr_clock.specs.Belongs.{view}
use Rattle.uma_life.specs.declared.states.Live.{Live}
use Rattle.uma_life.specs.Live.{live_domain}
use Rattle.uma_seat.specs.Stack.{stack_at, with_item}
use Rattle.uma_seat.specs.Seat.{freed_of}
use Rattle.uma_seat.specs.Freeing.{ShelvesFreed}
use Rattle.uma_seat.proofs.seat.SeatCache.free_smr.Goals as goal

pub returns-then-is_filled_by_one : goal.returns-then-is_filled_by_one
returns-then-is_filled_by_one g c =
    let s = c.seal_full.ensures.full in
    record {
      pass = search rules;
      put = search rules;
      rack = search rules;
      unseen = search rules;
      full = λ _. subst
          (λ (x : Live _ _). ShelvesFreed g.H.Host.copied (view c.args.pass.now) c.args.self.now (live_domain x) (with_item (stack_at (freed_of c.args.self.now) (live_domain x)) x) c.seal_full.new.self (view c.seal_full.new.pass))
          c.of.ensures
          (record { loose = s.loose; newest = s.newest; room = s.room; is_full = s.is_full; tried = s.tried; shelf = s.shelf; spares = s.spares; buckets = s.buckets });
      ledger = search rules;
      fetches = search rules;
      fails = search rules;
      same = search rules;
      ports = search rules;
      top = search rules;
      plain = search rules;
      misses = search rules;
    }
