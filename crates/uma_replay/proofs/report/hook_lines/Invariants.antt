-- The first lines are made.
use Rattle.uma_replay.specs.Reporting.{IsHookAt}
use Rattle.uma_replay.proofs.Pushed.{ArePushed}
use Rattle.uma_replay.proofs.report.hook_lines.Given as goal

abbrev pub invariant-loop-place : goal.invariant-loop-place
invariant-loop-place l = ArePushed (IsHookAt l.heads l.tallies l.deferred) l.place l.lines.items
