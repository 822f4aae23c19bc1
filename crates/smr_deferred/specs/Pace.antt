-- What a list keeps of its advances. Own.
use Rattle.std.specs.Prelude.{◌≡◌, ◌≤◌, ◌+◌, ℕ, Option, None, IsSome}
use Rattle.std.specs.Option.{ForSome}
use Rattle.smr_clock.specs.declared.clock.Setup.{Setup}
use Rattle.smr_clock.specs.declared.polls.AdvanceRefused.{AdvanceRefused}
use Rattle.smr_clock.specs.declared.host.Host.{Ghosts}
use Rattle.smr_clock.specs.declared.clock.Clock.{Clock}
use Rattle.smr_clock.specs.declared.pass.Pass.{Pass}
use Rattle.smr_clock.specs.Belongs.{TableId, IsPassOf, clock_id, view}
use Rattle.smr_clock.specs.Notes.{note_clock}
use Rattle.smr_deferred.specs.declared.asked.Asked.{Asked}
use Rattle.smr_deferred.specs.declared.pace.Pace.{Pace}
use Rattle.smr_deferred.specs.Asked.{IsAskedAt}
use Rattle.smr_deferred.specs.Counts.{numbers_in}
use Rattle.smr_deferred.specs.Numbers.{Numbers, none}

-- the limits that a list may have
pub record IsLimit (limit : ℕ) : Type 0 where
  pub least : 1 ≤ limit
  pub most : limit ≤ 65536

module _ {H P : Type 0} {g : Ghosts H P} where
  abbrev pub limit_in : Pace H P g → ℕ
  limit_in pace = pace.limit

  -- two above the write sequence that was loaded before the last advance that answered, or 0
  abbrev pub moved_in : Pace H P g → ℕ
  moved_in pace = pace.moved

  -- that advance's goal, and the note that was taken right after it
  abbrev pub asked_in : Pace H P g → Option (Asked H P g)
  asked_in pace = pace.asked

  -- how the last advance was refused, if it was
  abbrev pub refused_in : Pace H P g → Option AdvanceRefused
  refused_in pace = pace.refused

  abbrev pub numbers_of : Pace H P g → Numbers
  numbers_of pace = numbers_in pace.counts

  -- It was used before: it has the note by which its clock is known.
  abbrev pub IsUsed : Pace H P g → Type 0
  IsUsed pace = IsSome pace.home

  -- what is kept of any clock is of this one
  pub record IsOfClock (clock : TableId × Setup) (pace : Pace H P g) : Type 0 where
    pub home : ForSome pace.home (λ note. note_clock note ≡ clock)
    pub asked : ForSome pace.asked (IsAskedAt clock)

  -- the pass is of this clock, and what is kept of any clock is of it too
  pub record AreOfClock (clock : Clock H P) (pass : Pass H P g) (pace : Pace H P g) : Type 0 where
    pub here : IsPassOf clock pass
    pub mine : IsOfClock (clock_id clock) pace

  -- as it is made: nothing was asked or counted, and it is of any clock
  pub record IsNewPace (least : ℕ) (pace : Pace H P g) : Type 0 where
    pub limit : limit_in pace ≡ least
    pub unmoved : moved_in pace ≡ 0
    pub unasked : asked_in pace ≡ None
    pub unrefused : refused_in pace ≡ None
    pub numbers : numbers_of pace ≡ none
    pub unused : (clock : TableId × Setup) → IsOfClock clock pace

  -- they are, and this much is two above a write sequence that the pass has seen, or less
  pub record MayAdvance (clock : Clock H P) (pass : Pass H P g) (moved : ℕ) (pace : Pace H P g) : Type 0 where
    pub here : IsPassOf clock pass
    pub mine : IsOfClock (clock_id clock) pace
    pub loaded : moved ≤ (view pass).holder.seen + 2

  -- it is of this clock, and has asked for this goal, which isn't 0
  pub record MayPoll (clock : TableId × Setup) (goal : ℕ) (pace : Pace H P g) : Type 0 where
    pub mine : IsOfClock clock pace
    pub some : 1 ≤ goal
    pub reached : goal ≤ moved_in pace
