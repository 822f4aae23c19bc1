-- Own: what contracts see of a sealed bucket, and what its making and its polls come to.
use Rattle.std.specs.Prelude.{◌≡◌, ◌≤◌, Bool, true, false, Result, IfOk, IfErr}
use Rattle.smr_clock.specs.declared.clock.Setup.{Setup}
use Rattle.smr_clock.specs.declared.view.View.{View}
use Rattle.smr_clock.specs.declared.clock.Clock.{Clock}
use Rattle.smr_clock.specs.declared.pass.Goal.{Goal}
use Rattle.smr_clock.specs.declared.pass.Note.{Note}
use Rattle.smr_clock.specs.declared.pass.Pass.{Pass}
use Rattle.smr_clock.specs.declared.polls.AdvanceRefused.{AdvanceRefused}
use Rattle.smr_clock.specs.Advances.{Advances, AdvanceIsRefused as RefusesAdvance}
use Rattle.smr_clock.specs.Belongs.{TableId, IsPassOf, clock_id, view, holder}
use Rattle.smr_clock.specs.Goals.{number_of, tag_of}
use Rattle.smr_clock.specs.Notes.{note_knows, note_holder, note_clock, Notes}
use Rattle.smr_clock.specs.Polls.{Polls, SaysNo}
use Rattle.uma_bucket.specs.declared.freed.Loose.{Loose}
use Rattle.uma_bucket.specs.declared.freed.Sealed.{Sealed}

module _ {T H P : Type 0} {g h : _} where
  -- its items, with their room
  abbrev pub sealed_bucket : Sealed T H P g h → Loose T g
  sealed_bucket sealed = sealed.loose

  -- the goal that has to be expired before an item is used again
  abbrev pub sealed_goal : Sealed T H P g h → Goal
  sealed_goal sealed = sealed.goal

  abbrev pub sealed_note : Sealed T H P g h → Note H P h
  sealed_note sealed = sealed.note

  -- what its note knows
  abbrev pub sealed_knows : Sealed T H P g h → View P
  sealed_knows sealed = note_knows sealed.note

  -- its note is of this clock
  abbrev pub IsSealedAt : TableId × Setup → Sealed T H P g h → Type 0
  IsSealedAt clock sealed = note_clock sealed.note ≡ clock

  -- its note knows that its goal is expired
  abbrev pub KnowsExpired : Sealed T H P g h → Type 0
  KnowsExpired sealed = number_of sealed.goal ≤ (note_holder sealed.note).floor

  -- the same items in the same room, and the same goal
  abbrev pub IsSameBucket : Sealed T H P g h → Sealed T H P g h → Type 0
  IsSameBucket was is = (sealed_bucket is ≡ sealed_bucket was) × (sealed_goal is ≡ sealed_goal was)

  -- one poll of its goal by its note gave this answer
  abbrev pub IsPolled : Sealed T H P g h → Bool → Sealed T H P g h → Type 0
  IsPolled was answer is = Polls (sealed_knows was) (tag_of (sealed_goal was)) answer (sealed_knows is)

  -- The same bucket after one poll that said no. Its note remembers what this poll found.
  abbrev pub SaidNo : Sealed T H P g h → Sealed T H P g h → Type 0
  SaidNo was is = IsSameBucket was is × IsPolled was false is × SaysNo (sealed_knows was) (tag_of (sealed_goal was)) (sealed_knows is)

  -- The bucket was sealed by a pass, whose view was v before and v' after: it has the goal of an advance, and a note that was taken after that.
  pub record Seals (copied : P → P) (v : View P) (loose : Loose T g) (sealed : Sealed T H P g h) (v' : View P) : Type 0 where
    pub between : View P
    pub bucket : sealed_bucket sealed ≡ loose
    pub advance : Advances v (number_of (sealed_goal sealed)) between
    pub noted : Notes copied between v' (sealed_knows sealed)

  -- ---- what calls answer

  -- The same bucket after one poll. From a yes its note knows that the goal is expired, and a no says why.
  pub record PollsBucket (clock : TableId × Setup) (was : Sealed T H P g h) (answer : Bool) (is : Sealed T H P g h) : Type 0 where
    pub here : IsSealedAt clock is
    pub same : IsSameBucket was is
    pub yes : answer ≡ true → KnowsExpired is
    pub no : answer ≡ false → SaidNo was is
    pub polled : IsPolled was answer is

  -- The bucket is sealed, or the advance is refused and the bucket is back. The pass is where it was, of the same clock, and has seen what it had seen.
  pub record SealsOrNot (clock : Clock H P) (copied : P → P) (old : Pass H P h) (loose : Loose T g) (answer : Result (Sealed T H P g h) (Loose T g × AdvanceRefused)) (new : Pass H P h) : Type 0 where
    pub here : IsPassOf clock new
    pub phase : (holder new).phase ≡ (holder old).phase
    pub seen : (holder old).seen ≤ (holder new).seen
    pub host : (view new).host ≡ (view old).host
    pub of_clock : IfOk answer (IsSealedAt (clock_id clock))
    pub seals : IfOk answer (λ sealed. Seals copied (view old) loose sealed (view new))
    pub back : IfErr answer (λ (back_again, why). back_again ≡ loose)
    pub refused : IfErr answer (λ (back_again, why). RefusesAdvance (view old) why (view new))
