-- Own: the line of a pool in a table.
use Rattle.std.specs.Prelude.{◌≡◌, ℕ, List, map}
use Rattle.zone_stats.specs.declared.ledger.SeatLedger.{SeatLedger}
use Rattle.zone_stats.specs.declared.report.ZoneLine.{ZoneLine}
use Rattle.zone_stats.specs.Line.{zone_line}
use Rattle.zone_stats.specs.Name.{IsName}
use Rattle.uma_keg.specs.declared.census.Census.{Census}
use Rattle.uma_keg.specs.Census.{census_counts, census_out, census_table}
use Rattle.uma.specs.declared.pool.Pool.{Pool}
use Rattle.uma.specs.declared.stats.PoolLedger.{PoolLedger}
use Rattle.uma.specs.declared.refused.Refused.{Refused}
use Rattle.uma.specs.declared.refused.Refused.TheVariants.{Name, Memory}
use Rattle.uma.specs.Pool.{pool_home, pool_plan}

module _ {T K : Type 0} {g k : _} where
  -- the ledger is of a local of this pool
  abbrev pub IsLedgerOf : Pool T K g k → PoolLedger T K g k → Type 0
  IsLedgerOf pool ledger = ledger.pool.value ≡ pool

  -- what they count, in order
  abbrev pub counts_of : List (PoolLedger T K g k) → List SeatLedger
  counts_of ledgers = map (λ ledger. ledger.counts) ledgers

-- The line sums up these ledgers under this name, with the pool's size and limit, and with what a census of this very pool's slabs found.
pub record IsLineOf {T K : Type 0} {g k : _} (pool : Pool T K g k) (name : List ℕ) (ledgers : List SeatLedger) (line : ZoneLine) : Type 0 where
  pub census : Census
  pub of_pool : census_table census ≡ (pool_home pool).book
  pub all : line ≡ zone_line name (pool_plan pool).size (pool_plan pool).limit ledgers (census_out census 0) (census_counts census).free

-- Why there is no line: this is no name, or else memory is wanting.
abbrev pub RefusesLine : List ℕ → Refused → Type 0
RefusesLine name Name = IsName name → ⊥
RefusesLine name Memory = IsName name
RefusesLine name _ = ⊥
