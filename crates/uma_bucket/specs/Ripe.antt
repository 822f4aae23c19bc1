-- Own: what contracts see of a ripe bucket, and what follows where its items are used again.
use Rattle.std.specs.Prelude.{◌≡◌, ℕ, List, true, Result, IfOk, IfErr}
use mathlib.Core.Option.{some}
use lib.ListN.{get_elem?}
use Rattle.smr_clock.specs.declared.clock.Setup.{Setup}
use Rattle.smr_clock.specs.declared.view.View.{View}
use Rattle.smr_clock.specs.declared.pass.Goal.{Goal}
use Rattle.smr_clock.specs.declared.pass.Note.{Note}
use Rattle.smr_clock.specs.Belongs.{TableId}
use Rattle.smr_clock.specs.Goals.{tag_of}
use Rattle.smr_clock.specs.Notes.{note_knows, note_clock}
use Rattle.smr_clock.specs.Polls.{Polls}
use Rattle.smr_clock.specs.Moments.{Moment}
use Rattle.smr_clock.specs.SafeReuse.{Follow, StaysOver}
use Rattle.uma_bucket.specs.declared.freed.Loose.{Loose}
use Rattle.uma_bucket.specs.declared.freed.Sealed.{Sealed}
use Rattle.uma_bucket.specs.declared.freed.Ripe.{Ripe}
use Rattle.uma_bucket.specs.Sealed.{sealed_bucket, sealed_goal, sealed_note, sealed_knows, IsSealedAt, SaidNo}

module _ {T H P : Type 0} {g h : _} where
  -- its items, with their room
  abbrev pub ripe_bucket : Ripe T H P g h → Loose T g
  ripe_bucket ripe = ripe.loose

  -- the goal that is expired
  abbrev pub ripe_goal : Ripe T H P g h → Goal
  ripe_goal ripe = ripe.goal

  abbrev pub ripe_note : Ripe T H P g h → Note H P h
  ripe_note ripe = ripe.note

  -- what its note knows
  abbrev pub ripe_knows : Ripe T H P g h → View P
  ripe_knows ripe = note_knows ripe.note

  -- its note is of this clock
  abbrev pub IsRipeAt : TableId × Setup → Ripe T H P g h → Type 0
  IsRipeAt clock ripe = note_clock ripe.note ≡ clock

  -- The sealed bucket became this ripe one by one poll of its goal that said yes.
  abbrev pub SaidYes : Sealed T H P g h → Ripe T H P g h → Type 0
  SaidYes was ripe =
      (ripe_bucket ripe ≡ sealed_bucket was) × (ripe_goal ripe ≡ sealed_goal was)
      × Polls (sealed_knows was) (tag_of (sealed_goal was)) true (ripe_knows ripe)

  -- the sealed bucket is this ripe one
  pub record IsOpened (sealed : Sealed T H P g h) (ripe : Ripe T H P g h) : Type 0 where
    pub bucket : ripe_bucket ripe ≡ sealed_bucket sealed
    pub goal : ripe_goal ripe ≡ sealed_goal sealed
    pub note : ripe_note ripe ≡ sealed_note sealed

  -- One poll said yes, and the bucket is ripe. Or it said no, and the bucket is back.
  pub record TriesToOpen (clock : TableId × Setup) (was : Sealed T H P g h) (answer : Result (Ripe T H P g h) (Sealed T H P g h)) : Type 0 where
    pub here : IfOk answer (IsRipeAt clock)
    pub back_here : IfErr answer (IsSealedAt clock)
    pub yes : IfOk answer (SaidYes was)
    pub no : IfErr answer (SaidNo was)

-- From each moment on at which some seat of the clock knows this much, the goal is expired and no open section is before it, then and at each moment that follows. The law is that of safe reuse.
abbrev pub IsOverFrom : {P : Type 0} → View P → ℕ → Type 0
IsOverFrom {P} knows goal =
    (now : Moment P) (following : List (Moment P)) (id : ℕ)
    → Follow knows.setup now following → get_elem? now.1 id ≡ some knows → StaysOver now following goal
