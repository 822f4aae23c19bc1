use Rattle.trace_schedule.proofs.ScheduleLaws.{output-is-one, refused-prints-nothing}
use Rattle.trace_schedule.proofs.laws.schedules_print_one_thing.Goals as goal

pub returns-clause-one : goal.returns-clause-one
returns-clause-one c = output-is-one c.turns_are_determined.ensures.determined

pub returns-clause-nothing : goal.returns-clause-nothing
returns-clause-nothing c =
    refused-prints-nothing c.turns_are_determined.ensures.determined c.turns_are_determined.ensures.not_refused
