use Rattle.umarun.proofs.Outcomes.{text_not_played, step_not_played}
use Rattle.umarun.proofs.run.played_or_refused.Goals as goal

pub returns-clause-text : goal.returns-clause-text
returns-clause-text c = text_not_played c.one_verdict.ensures.right

pub returns-clause-step : goal.returns-clause-step
returns-clause-step c = step_not_played c.one_schedule_reading.ensures c.schedules_print_one_thing.ensures.nothing
