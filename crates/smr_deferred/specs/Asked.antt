-- What a list has asked of its clock: the goal of its last advance that answered, and the note by which it polls. Own.
use Rattle.std.specs.Prelude.{◌≡◌, ◌≤◌, ℕ, Bool, true, false}
use Rattle.smr_clock.specs.declared.clock.Setup.{Setup}
use Rattle.smr_clock.specs.declared.view.View.{View}
use Rattle.smr_clock.specs.declared.host.Host.{Ghosts}
use Rattle.smr_clock.specs.Belongs.{TableId}
use Rattle.smr_clock.specs.Goals.{number_of, tag_of}
use Rattle.smr_clock.specs.Notes.{note_knows, note_clock}
use Rattle.smr_clock.specs.Polls.{Polls, SaysNo}
use Rattle.smr_deferred.specs.declared.asked.Asked.{Asked}

module _ {H P : Type 0} {g : Ghosts H P} where
  -- the whole number of the goal
  abbrev pub asked_goal : Asked H P g → ℕ
  asked_goal asked = number_of asked.goal

  -- what the note knows
  abbrev pub asked_knows : Asked H P g → View P
  asked_knows asked = note_knows asked.note

  -- the note is of this clock
  abbrev pub IsAskedAt : TableId × Setup → Asked H P g → Type 0
  IsAskedAt clock asked = note_clock asked.note ≡ clock

  -- the note knows that the goal is expired
  abbrev pub KnowsExpired : Asked H P g → Type 0
  KnowsExpired asked = asked_goal asked ≤ (asked_knows asked).holder.floor

  -- one poll of the same goal by the note gave this answer
  abbrev pub IsPolled : Asked H P g → Bool → Asked H P g → Type 0
  IsPolled was answer is = (is.goal ≡ was.goal) × Polls (asked_knows was) (tag_of was.goal) answer (asked_knows is)

  -- That poll said no. The note remembers what this poll found, and has made one poll more that came to its exchange.
  abbrev pub SaidNo : Asked H P g → Asked H P g → Type 0
  SaidNo was is = SaysNo (asked_knows was) (tag_of was.goal) (asked_knows is)

  -- so it did, with a note of this clock
  pub record PollsAsked (clock : TableId × Setup) (was : Asked H P g) (answer : Bool) (is : Asked H P g) : Type 0 where
    pub here : IsAskedAt clock is
    pub polled : IsPolled was answer is
    pub yes : answer ≡ true → KnowsExpired is
    pub no : answer ≡ false → SaidNo was is
