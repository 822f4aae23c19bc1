-- The ledgers of the first zones are collected.
use Rattle.uma_replay.specs.Reporting.{AreLedgers}
use Rattle.uma_replay.proofs.report.collect_zones.Given as goal

abbrev pub invariant-loop-place : goal.invariant-loop-place
invariant-loop-place g l = AreLedgers l.place l.workers l.ledgers.items
