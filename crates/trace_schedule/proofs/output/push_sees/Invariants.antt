use Rattle.std.proofs.Common.{◌≡◌, ◌++◌, take}
use Rattle.std.specs.List.{flat_map}
use Rattle.trace_schedule.specs.ScheduleText.{seen_line}
use Rattle.trace_schedule.proofs.output.push_sees.Given as goal

-- the lines so far were appended
abbrev pub invariant-loop-seen : goal.invariant-loop-seen
invariant-loop-seen l = l.text.items ≡ l.initial.text.items ++ flat_map (seen_line l.version) (take l.seen-index l.sees)
