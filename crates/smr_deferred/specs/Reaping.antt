-- What a reap comes to. Own.
use Rattle.std.specs.Prelude.{◌≡◌, ◌<◌, ℕ, [], ◌∷◌, true, false, Option, Some, None, Result, Ok, Err}
use Rattle.smr_clock.specs.declared.host.Host.{Ghosts}
use Rattle.smr_deferred.specs.declared.retire_list.ReapNo.{ReapNo}
use Rattle.smr_deferred.specs.declared.retire_list.ReapNo.TheVariants.{Ahead, Held}
use Rattle.smr_deferred.specs.declared.retire_list.RetireList.{RetireList}
use Rattle.smr_deferred.specs.Polling.{PollsOnce, KnowsOver}
use Rattle.smr_deferred.specs.Retired.{retired, oldest_goal}
use Rattle.smr_deferred.specs.RetireList.{listed, pace_of, moved_of, IsSame}

module _ {T H P : Type 0} {g : Ghosts H P} where
  -- The oldest value comes out, after a poll that said yes. Its goal is expired, so no section before it is open from then on.
  pub record Gives (value : T) (was is : RetireList T H P g) : Type 0 where
    pub goal : ℕ
    pub oldest : listed was ≡ retired value goal ∷ listed is
    pub poll : PollsOnce goal true (pace_of was) (pace_of is)
    pub over : KnowsOver goal (pace_of is)

  -- The oldest value's goal is above what the list has asked for. Nothing changes.
  pub record IsAhead (goal moved : ℕ) (was is : RetireList T H P g) : Type 0 where
    pub oldest : oldest_goal (listed was) ≡ Some goal
    pub moved_is : moved_of was ≡ moved
    pub ahead : moved < goal
    pub same : IsSame was is

  -- The poll of this call said no, so the oldest value stays, and all others.
  pub record IsHeld (goal : ℕ) (was is : RetireList T H P g) : Type 0 where
    pub oldest : oldest_goal (listed was) ≡ Some goal
    pub stay : listed is ≡ listed was
    pub poll : PollsOnce goal false (pace_of was) (pace_of is)

  -- None where the list is empty; else the oldest value, or why it stays.
  abbrev pub Reaps : RetireList T H P g → Result (Option T) ReapNo → RetireList T H P g → Type 0
  Reaps was (Ok None) is = (listed was ≡ []) × IsSame was is
  Reaps was (Ok (Some value)) is = Gives value was is
  Reaps was (Err (Ahead goal moved)) is = IsAhead goal moved was is
  Reaps was (Err (Held goal)) is = IsHeld goal was is
