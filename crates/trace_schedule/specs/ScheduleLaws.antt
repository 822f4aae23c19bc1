-- The laws of what a schedule prints.
use Rattle.std.specs.Prelude.{ℕ, ◌≡◌, List}
use Rattle.smr_core.specs.declared.turns.StepRefused.{StepRefused}
use Rattle.trace_schedule.specs.declared.schedule.Schedule.{Schedule}
use Rattle.trace_schedule.specs.declared.schedule.TurnLine.{TurnLine}
use Rattle.trace_schedule.specs.ScheduleText.{IsOutput, RefusedAt}

-- a schedule has one output at most
abbrev pub OutputIsOne : Type 0
OutputIsOne = (schedule : Schedule) (a b : List ℕ) → IsOutput schedule a → IsOutput schedule b → a ≡ b

-- no line of the schedule is refused
abbrev pub NoneIsRefused : Schedule → Type 0
NoneIsRefused schedule = (n : ℕ) (l : TurnLine) (refused : StepRefused) → RefusedAt schedule n l refused → ⊥

-- it has none where a line is refused
abbrev pub RefusedPrintsNothing : Type 0
RefusedPrintsNothing = (schedule : Schedule) (a : List ℕ) → IsOutput schedule a → NoneIsRefused schedule
