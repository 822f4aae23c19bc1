use Rattle.std.proofs.Common.{◌≡◌, ◌*◌, ◌^◌, ◌≤◌, take, sum_by}
use Rattle.zone_stats.specs.Line.{count_of}
use Rattle.zone_stats.proofs.report.total.Given as goal

-- the total is that of the ledgers so far
abbrev pub invariant-loop-ledger : goal.invariant-loop-ledger
invariant-loop-ledger l =
    (l.total ≡ sum_by (count_of l.count) (take l.ledger-index l.ledgers)) × (l.total ≤ l.ledger-index * 2 ^ 64)
