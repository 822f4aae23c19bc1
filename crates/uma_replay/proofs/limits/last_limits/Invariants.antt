-- The first zones have their limits, and their ledgers were tested.
use Rattle.trace_text.specs.Lines.{lines_of}
use Rattle.uma_replay.proofs.LimitLines.{AreTested}
use Rattle.uma_replay.proofs.limits.last_limits.Given as goal

abbrev pub invariant-loop-place : goal.invariant-loop-place
invariant-loop-place l = AreTested (lines_of l.rounds) l.heads l.ledgers l.place l.limits.items
