use Rattle.std.proofs.Common.{zero, suc, [], ◌∷◌, subst, arith}
use Rattle.std.specs.Prelude.{IfOk}
use Rattle.zone_stats.specs.declared.ledger.SeatLedger.{SeatLedger}
use Rattle.uma.specs.Local.{pool_of}
use Rattle.uma.specs.Table.{IsLineOf}
use Rattle.uma.proofs.local.Local.stats.Goals as goal

pub stats-requires : goal.stats-requires
stats-requires g c zero d below = c.ledger.ensures.pool
stats-requires g c (suc k) d below = absurd (omega arith)

pub returns-clause-line : goal.returns-clause-line
returns-clause-line g c = subst (λ (l : SeatLedger). IfOk c.stats.result (IsLineOf (pool_of c.args.self.now) c.args.name.now (l ∷ []))) c.ledger.ensures.counts c.stats.ensures.line
