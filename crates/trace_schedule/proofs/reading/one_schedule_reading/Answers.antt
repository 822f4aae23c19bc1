use Rattle.trace_schedule.proofs.ScheduleRange.{one_schedule}
use Rattle.trace_schedule.proofs.reading.one_schedule_reading.Goals as goal

pub returns : goal.returns
returns c = one_schedule
