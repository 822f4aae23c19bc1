-- What the command `steps` does with the bytes that it reads (own).
use Rattle.std.specs.Prelude.{ℕ, ◌≤◌, Option, List, length}
use Rattle.smr_core.specs.declared.turns.StepRefused.{StepRefused}
use Rattle.trace_lines.specs.TextLines.{IsRefusedAt}
use Rattle.trace_lines.specs.declared.refused.TraceRefused.{TraceRefused}
use Rattle.trace_schedule.specs.declared.schedule.Schedule.{Schedule}
use Rattle.trace_schedule.specs.declared.schedule.ScheduleRefused.TheVariants as refusals
use Rattle.trace_schedule.specs.ScheduleGrammar.{schedule_test, IsScheduleText}
use Rattle.trace_schedule.specs.ScheduleText.{IsOutput, RefusesSchedule}
use Rattle.uma_io.specs.Sink.{Adds, AddsPart}
use Rattle.umarun.specs.Replaying.{most_bytes}

-- the bytes are the text of a schedule, at most so many, and the schedule prints this
pub record Plays (printed bytes : List ℕ) : Type 0 where
  pub within : length bytes ≤ most_bytes
  pub schedule : Schedule
  pub text : IsScheduleText bytes schedule
  pub output : IsOutput schedule printed

-- the bytes are the text of a schedule none of whose steps is refused
abbrev pub ArePlayed : List ℕ → Type 0
ArePlayed bytes = (printed : List ℕ) × Plays printed bytes

-- the sink holds what it held before, and behind it what the schedule of the bytes prints
pub record WritesOutput (before after : Option (List ℕ)) (bytes : List ℕ) : Type 0 where
  pub printed : List ℕ
  pub plays : Plays printed bytes
  pub adds : Adds before printed after

-- behind it a front of what that schedule prints
pub record WritesPart (before after : Option (List ℕ)) (bytes : List ℕ) : Type 0 where
  pub printed : List ℕ
  pub plays : Plays printed bytes
  pub adds : AddsPart before printed after

-- the bytes are refused at this line, for this reason
pub record RefusesText (refused : TraceRefused) (bytes : List ℕ) : Type 0 where
  pub within : length bytes ≤ most_bytes
  pub at : IsRefusedAt schedule_test bytes refused.line refused.kind

-- the bytes are the text of a schedule, whose first step that is refused stands at this line
pub record RefusesStep (line : ℕ) (refused : StepRefused) (bytes : List ℕ) : Type 0 where
  pub within : length bytes ≤ most_bytes
  pub schedule : Schedule
  pub text : IsScheduleText bytes schedule
  pub step : RefusesSchedule schedule (refusals.Step line refused)
