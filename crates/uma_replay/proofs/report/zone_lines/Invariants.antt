-- The first lines are made.
use Rattle.std.proofs.Common.{get_or}
use Rattle.uma_replay.specs.Reporting.{IsLineAt}
use Rattle.uma_replay.proofs.Pushed.{ArePushed}
use Rattle.uma_replay.proofs.report.zone_lines.Given as goal

abbrev pub invariant-loop-place : goal.invariant-loop-place
invariant-loop-place l = ArePushed (IsLineAt l.heads (λ z head. get_or l.limits z 0) l.ledgers l.censuses) l.place l.lines.items
