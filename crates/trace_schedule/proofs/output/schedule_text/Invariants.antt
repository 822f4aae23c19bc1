use Rattle.std.proofs.Common.{take}
use Rattle.smr_core.specs.CoreState.{opening}
use Rattle.trace_schedule.specs.ScheduleText.{Prints, config_of}
use Rattle.trace_schedule.proofs.output.schedule_text.Given as goal

-- the lines so far print the text
abbrev pub invariant-loop-line : goal.invariant-loop-line
invariant-loop-line l =
    Prints l.schedule.version (opening (config_of l.schedule)) (take l.line-index l.schedule.lines) l.text.items l.core
