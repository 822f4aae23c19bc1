-- The ledgers of the first workers' seats are collected.
use Rattle.std.specs.Prelude.{take}
use Rattle.uma_replay.specs.Reporting.{AreLedgersOf}
use Rattle.uma_replay.proofs.report.seat_ledgers.Given as goal

abbrev pub invariant-loop-number : goal.invariant-loop-number
invariant-loop-number g l = AreLedgersOf l.place (take l.number l.workers) l.ledgers.items
