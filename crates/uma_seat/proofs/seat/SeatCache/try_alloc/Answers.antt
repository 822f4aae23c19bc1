use Rattle.std.proofs.Common.{rules, IfSome, ap, subst, arith}
use Rattle.std.proofs.lemmas.Grind.{common_steps}
use Rattle.uma_life.specs.Cached.{cached_ticket}
use Rattle.uma_bucket.specs.Home.{IsHome}
use Rattle.uma_seat.specs.Seating.{home_of}
use Rattle.uma_seat.specs.Seat.{top_of, plain_of}
use Rattle.uma_seat.specs.declared.seating.Seating.{Seating}
use Rattle.uma_seat.specs.Stack.{stack_of}
use Rattle.uma_seat.proofs.Usable.{still_none}
use Rattle.uma_seat.proofs.seat.SeatCache.try_alloc.Goals as goal

pub returns : goal.returns
returns g c =
    let old = c.args.self.now in
    let mid = c.exchange_if_empty.new.self in
    let made = c.exchange_if_empty.ensures.frame.same.0 in
    record {
      last = grind (arith, common_steps);
      none = grind (arith, common_steps);
      unchanged =
          still_none c.pop.result old.seating.smr mid.seating.smr old.seating.domain mid.seating.domain (top_of old) (stack_of mid.top) (stack_of c.pop.new.self) (plain_of old) (plain_of mid) (ap (λ (s : Seating _ _). s.smr) made) (ap (λ (s : Seating _ _). s.domain) made)
          c.exchange_if_empty.ensures.top c.exchange_if_empty.ensures.plain c.pop.ensures.none c.pop.ensures.unchanged;
      taken = search rules;
      room = search rules;
      plain = search rules;
      home = λ before.
          let both = c.pop.ensures.home (home_of mid.seating) (c.exchange_if_empty.ensures.home before) in
          (both.0, subst (λ seating. IfSome c.pop.result (λ item. IsHome (home_of seating) (cached_ticket item))) made both.1);
      same = search rules;
      ports = search rules;
      freed = search rules;
      rack = search rules;
      counts = search rules;
      misses = search rules;
    }
