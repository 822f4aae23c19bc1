-- The lines of the first zones' kegs are made.
use Rattle.uma_replay.specs.Reporting.{AreKegsTo}
use Rattle.uma_replay.proofs.report.keg_lines.Given as goal

abbrev pub invariant-loop-place : goal.invariant-loop-place
invariant-loop-place l = AreKegsTo l.heads l.censuses l.tallies l.place l.lines.items
