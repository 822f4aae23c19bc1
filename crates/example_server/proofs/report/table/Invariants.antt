use Rattle.std.proofs.Common.{All}
use Rattle.uma.specs.NameTable.{IsNameLedgerOf}
use Rattle.uma.specs.Table.{IsLedgerOf}
use Rattle.example_server.proofs.report.table.Given as goal

abbrev pub invariant-loop-worker : goal.invariant-loop-worker
invariant-loop-worker g l = record {
  pooled : All (IsLedgerOf l.shared.pool.now) l.pooled.items;
  named : All (IsNameLedgerOf l.shared.directory.now) l.named.items;
}
