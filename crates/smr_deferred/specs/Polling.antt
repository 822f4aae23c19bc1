-- What a poll of a list comes to. Own.
use Rattle.std.specs.Prelude.{◌≡◌, ◌≤◌, ℕ, Bool, false, Some}
use Rattle.smr_clock.specs.declared.host.Host.{Ghosts}
use Rattle.smr_deferred.specs.declared.asked.Asked.{Asked}
use Rattle.smr_deferred.specs.declared.pace.Pace.{Pace}
use Rattle.smr_deferred.specs.Asked.{asked_knows, IsPolled, SaidNo}
use Rattle.smr_deferred.specs.Goals.{IsOverFrom}
use Rattle.smr_deferred.specs.Pace.{limit_in, moved_in, asked_in, refused_in, numbers_of}

module _ {H P : Type 0} {g : Ghosts H P} where
  -- One poll, of what the list asked last, by its note: the goal is at most what that reached. All else stays.
  pub record PollsOnce (goal : ℕ) (answer : Bool) (was is : Pace H P g) : Type 0 where
    pub asked : Asked H P g
    pub polled : Asked H P g
    pub was_asked : asked_in was ≡ Some asked
    pub is_asked : asked_in is ≡ Some polled
    pub reached : goal ≤ moved_in was
    pub poll : IsPolled asked answer polled
    pub said_no : answer ≡ false → SaidNo asked polled
    pub moved : moved_in is ≡ moved_in was
    pub refused : refused_in is ≡ refused_in was
    pub numbers : numbers_of is ≡ numbers_of was
    pub limit : limit_in is ≡ limit_in was

  -- the list's note knows that the goal is expired, and from then on no open section is before it
  pub record KnowsOver (goal : ℕ) (is : Pace H P g) : Type 0 where
    pub asked : Asked H P g
    pub is_asked : asked_in is ≡ Some asked
    pub expired : goal ≤ (asked_knows asked).holder.floor
    pub over : IsOverFrom (asked_knows asked) goal
