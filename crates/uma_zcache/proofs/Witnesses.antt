-- What a call did under the lock is told by the states that it found and left there.
use Rattle.std.proofs.Common.{◌≡◌, []}
use Rattle.std.specs.Prelude.{Result, Ok, Err, OnOk, IfErr}
use Rattle.uma_zcache.specs.declared.cache.ZCache.{ZCache}
use Rattle.uma_zcache.specs.declared.locked.LockedCache.{LockedCache}
use Rattle.uma_zcache.specs.declared.refused.ZAllocRefused.{ZAllocRefused}
use Rattle.uma_zcache.specs.declared.cache.ZSeat.{ZSeat}
use Rattle.uma_zcache.specs.Cache.{cache_key, GivesRound, RefusesAlloc}
use Rattle.uma_zcache.specs.Rounds.{FillsSeat, TurnsSeatAway, KeepsSeat}
use Rattle.uma_zcache.specs.Rule.{Keeps}
use Rattle.uma_zcache.specs.Seat.{held_in}

module _ {I : Type 0} {g : _} where
  pub gives_round : (cache : ZCache I g) (was is : LockedCache I g) (old new : ZSeat) (end : Result (Unit {0}) ZAllocRefused) → Keeps (cache_key cache) was → KeepsSeat was old is new → OnOk end (FillsSeat was old is new) → OnOk end (GivesRound cache old new)
  gives_round cache was is old new (Ok done) keeps kept fills =
      record {
        round = record { was = was; is = is; kept = keeps; keeps = kept.keeps (cache_key cache) keeps; fills = fills.fills; entries = kept.entries };
        some = fills.some;
        causes = fills.causes;
        same = kept.seat;
      }
  gives_round cache was is old new (Err why) keeps kept fills = fills

  pub refuses_alloc : (cache : ZCache I g) (was is : LockedCache I g) (old new : ZSeat) (end : Result (Unit {0}) ZAllocRefused) → Keeps (cache_key cache) was → held_in old ≡ [] → KeepsSeat was old is new → IfErr end (λ why. TurnsSeatAway was old why is new) → IfErr end (λ why. RefusesAlloc cache old why new)
  refuses_alloc cache was is old new (Ok done) keeps empty kept turns = turns
  refuses_alloc cache was is old new (Err why) keeps empty kept turns =
      record {
        empty = empty;
        still = turns.none;
        turned = record { was = was; is = is; kept = keeps; keeps = kept.keeps (cache_key cache) keeps; turns = turns.turned };
        causes = turns.causes;
        same = kept.seat;
      }
