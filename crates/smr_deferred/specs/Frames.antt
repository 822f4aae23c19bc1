-- What a list's calls leave of the pass that they take as it was, and of the list's clock. Own.
use Rattle.std.specs.Prelude.{◌≡◌, ◌≤◌, ◌+◌}
use Rattle.smr_clock.specs.declared.clock.Setup.{Setup}
use Rattle.smr_clock.specs.declared.host.Host.{Ghosts}
use Rattle.smr_clock.specs.declared.clock.Clock.{Clock}
use Rattle.smr_clock.specs.declared.pass.Pass.{Pass}
use Rattle.smr_clock.specs.Belongs.{TableId, IsPassOf, clock_id, view}
use Rattle.smr_deferred.specs.declared.pace.Pace.{Pace}
use Rattle.smr_deferred.specs.Advancing.{Rests}
use Rattle.smr_deferred.specs.Numbers.{Numbers}
use Rattle.smr_deferred.specs.Pace.{numbers_of, IsOfClock, IsUsed}
use Rattle.smr_deferred.specs.Pass.{KnowsMore, Stays}

module _ {H P : Type 0} {g : Ghosts H P} where
  -- Pass and list are of the clock still. The pass is where it was, has seen what it had seen, and made no more advances than the list counts.
  pub record GoesOn (clock : Clock H P) (old new : Pass H P g) (was is : Pace H P g) : Type 0 where
    pub here : IsPassOf clock new
    pub mine : IsOfClock (clock_id clock) is
    pub stays : Stays (view old) (view new)
    pub few : (view new).holder.advances + (numbers_of was).answered ≤ (view old).holder.advances + (numbers_of is).answered

  -- Pass and list are of the clock still, and the pass is as it was.
  pub record KeepsPass (clock : Clock H P) (old new : Pass H P g) (is : Pace H P g) : Type 0 where
    pub here : IsPassOf clock new
    pub mine : IsOfClock (clock_id clock) is
    pub same : view new ≡ view old

  -- The list is of the clock from now on, and nothing else of it changes; the pass may have loaded the write sequence, but not for a list that was used before, which has its note.
  pub record Settles (clock : Clock H P) (old new : Pass H P g) (was is : Pace H P g) : Type 0 where
    pub here : IsPassOf clock new
    pub mine : IsOfClock (clock_id clock) is
    pub more : KnowsMore (view old) (view new)
    pub once : IsUsed was → view new ≡ view old
    pub rests : Rests (numbers_of was) was is

  -- The numbers are these now, and nothing else changes.
  pub record CountsTo (n : Numbers) (was is : Pace H P g) : Type 0 where
    pub rests : Rests n was is
    pub mine : (clock : TableId × Setup) → IsOfClock clock was → IsOfClock clock is
