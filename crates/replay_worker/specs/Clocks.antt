-- The clock of a trace, and its passes (own).
use Rattle.std.specs.Prelude.{◌≡◌, ◌≤◌, ℕ, List, length, Option, Some, slice_get}
use Rattle.std.specs.Option.{option_map_or}
use Rattle.smr_clock.specs.declared.clock.Clock.{Clock}
use Rattle.smr_clock.specs.declared.pass.Pass.{Pass}
use Rattle.smr_clock.specs.declared.pass.Note.{Note}
use Rattle.smr_clock.specs.declared.host.Host.{Ghosts}
use Rattle.smr_clock.specs.declared.clock.Setup.{Setup}
use Rattle.smr_clock.specs.Belongs.{IsPassOf, setup_of, holder}
use Rattle.smr_clock.specs.Making.{setup}
use Rattle.smr_clock.specs.Notes.{IsNoteOf, note_holder}
use Rattle.smr_core.specs.declared.holder.Phase.TheVariants.{Outside}
use Rattle.trace_text.specs.declared.trace.ClockHead.{ClockHead}
use Rattle.trace_text.specs.declared.trace.Head.{Head}

-- where both sequences begin: as the clock line says, or at 1
abbrev pub start_of : Option ClockHead → ℕ
start_of line = option_map_or (λ clock. clock.start) line 1

-- how far the write sequence may be above the read sequence: as the clock line says, or 1,024
abbrev pub window_of : Option ClockHead → ℕ
window_of line = option_map_or (λ clock. clock.window) line 1024

-- what the clock of a trace is made with: a seat for each worker, and the plan of its host
abbrev pub setup_for : ℕ × ℕ → Head → Setup
setup_for plan head = setup head.workers (start_of head.clock) (window_of head.clock) plan

-- a clock with the numbers of the trace's head, whatever its host plans
abbrev pub IsClockOf : {H P : Type 0} → Head → Clock H P → Type 0
IsClockOf head clock = setup_of clock ≡ setup_for (setup_of clock).plan head

module _ {H P : Type 0} {h : Ghosts H P} where
  -- a pass of this clock that is outside, and knows that both sequences are where they began or above
  pub record IsNewPass (clock : Clock H P) (pass : Pass H P h) : Type 0 where
    pub here : IsPassOf clock pass
    pub outside : (holder pass).phase ≡ Outside
    pub begun : (setup_of clock).config.start ≤ (holder pass).seen
    pub low : (setup_of clock).config.start ≤ (holder pass).floor

  -- so many new passes
  pub record ArePasses (count : ℕ) (clock : Clock H P) (passes : List (Pass H P h)) : Type 0 where
    pub one_each : length passes ≡ count
    pub each : (n : ℕ) (pass : Pass H P h) → slice_get passes n ≡ Some pass → IsNewPass clock pass

  -- a note of this clock that knows the same
  pub record KnowsBeginning (clock : Clock H P) (note : Note H P h) : Type 0 where
    pub here : IsNoteOf clock note
    pub low : (setup_of clock).config.start ≤ (note_holder note).floor
