-- What the command `bulk` does with the trace that it makes (own).
use Rattle.std.specs.Prelude.{ℕ}
use Rattle.trace_gen.specs.Header.{made_trace}
use Rattle.uma_replay.specs.Report.{StandsFor}
use Rattle.umarun.specs.Replaying.{LeavesHall}
use Rattle.umarun.specs.declared.replaying.AnyHall.{AnyHall}
use Rattle.zone_stats.specs.declared.report.Report.{Report}

-- The report stands for the trace that these numbers give, and for the hall that the trace's lines left.
pub record ReplaysMade (seed workers ops : ℕ) (report : Report) (ended : AnyHall) : Type 0 where
  pub stands : StandsFor (made_trace seed workers ops) report
  pub hall : LeavesHall (made_trace seed workers ops) report ended
