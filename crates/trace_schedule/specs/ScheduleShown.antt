-- The running state of a schedule's reading, and the lines that it is the state after (own).
use Rattle.std.specs.Prelude.{ℕ, ◌≡◌, ◌∷◌, ◌++◌, [], List, Bool, true, false, ◌||◌, IsSome, IfSome, Ok}
use Rattle.trace_lines.specs.TextLines.{TextLine, is_ended}
use Rattle.smr_core.specs.declared.clock_core.ClockConfig.{ClockConfig}
use Rattle.trace_schedule.specs.declared.schedule.Schedule.{Schedule}
use Rattle.trace_schedule.specs.declared.reading.reader.ScheduleReader.{ScheduleReader}
use Rattle.trace_schedule.specs.declared.reading.parsed_line.ParsedLine.{ParsedLine}
use Rattle.trace_schedule.specs.declared.reading.parsed_line.ParsedLine.TheVariants as parsed
use Rattle.trace_schedule.specs.ScheduleGrammar.{version_of, clock_of, turn_lines, clock_after, turns_in}

abbrev pub is_begun : List TextLine → Bool
is_begun [] = false
is_begun (last ∷ before) = true

-- the state is the one after these lines, the last one first
pub record Shows (reader : ScheduleReader) (lines : List TextLine) : Type 0 where
  pub begun : reader.begun ≡ is_begun lines
  pub version : reader.version ≡ version_of lines
  pub clock : reader.clock ≡ clock_of lines
  pub turns : reader.turns.items ≡ turn_lines lines
  pub ended : reader.ended ≡ is_ended lines
  pub clocked : reader.ended ≡ true → IsSome reader.clock

-- the line is `end`
abbrev pub is_last : ParsedLine → Bool
is_last parsed.End = true
is_last other = false

-- behind the first line, the state takes in what a line of this number says
pub record Applies (number : ℕ) (parsed : ParsedLine) (old new : ScheduleReader) : Type 0 where
  pub begun : new.begun ≡ old.begun
  pub version : new.version ≡ old.version
  pub clock : new.clock ≡ clock_after (Ok parsed) old.clock
  pub turns : new.turns.items ≡ old.turns.items ++ turns_in number (Ok parsed)
  pub ended : new.ended ≡ (old.ended || is_last parsed)

-- the schedule has the numbers and the lines of the state
pub record IsScheduleOf (schedule : Schedule) (reader : ScheduleReader) : Type 0 where
  pub clock : IfSome reader.clock (λ (config : ClockConfig). config ≡ record { start = schedule.start; window = schedule.window; seats = schedule.seats })
  pub version : schedule.version ≡ reader.version
  pub lines : schedule.lines ≡ reader.turns.items
