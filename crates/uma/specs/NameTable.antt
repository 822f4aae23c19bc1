-- Own: the line of a directory in a table.
use Rattle.std.specs.Prelude.{◌≡◌, ℕ, List, map}
use Rattle.zone_stats.specs.declared.ledger.SeatLedger.{SeatLedger}
use Rattle.zone_stats.specs.declared.report.ZoneLine.{ZoneLine}
use Rattle.zone_stats.specs.Line.{zone_line}
use Rattle.uma_keg.specs.declared.census.Census.{Census}
use Rattle.uma_keg.specs.Census.{census_counts, census_out, census_table}
use Rattle.name_cache.specs.Cache.{cache_home}
use Rattle.uma.specs.declared.directory.Directory.{Directory}
use Rattle.uma.specs.declared.plan.NameLedger.{NameLedger}

-- the ledger is of a local of this directory
abbrev pub IsNameLedgerOf : Directory → NameLedger → Type 0
IsNameLedgerOf directory ledger = ledger.directory.value ≡ directory

-- what they count, in order
abbrev pub name_counts : List NameLedger → List SeatLedger
name_counts ledgers = map (λ ledger. ledger.counts) ledgers

-- The line sums up these ledgers under this name, for entries of 64 bytes without a limit, with what a census of this very directory's slabs found.
pub record IsNameLineOf (directory : Directory) (name : List ℕ) (ledgers : List SeatLedger) (line : ZoneLine) : Type 0 where
  pub census : Census
  pub of_directory : census_table census ≡ (cache_home directory.cache).book
  pub all : line ≡ zone_line name 64 0 ledgers (census_out census 0) (census_counts census).free
