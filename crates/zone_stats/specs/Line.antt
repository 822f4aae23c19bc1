-- The line of a zone, from what its seats counted (own).
use Rattle.std.specs.Prelude.{ℕ, ◌+◌, ◌-◌, List, sum_by}
use Rattle.zone_stats.specs.declared.ledger.SeatLedger.{SeatLedger}
use Rattle.zone_stats.specs.declared.report.Count.{Count}
use Rattle.zone_stats.specs.declared.report.Count.TheVariants.{Allocs, Fails, Frees, Cross}
use Rattle.zone_stats.specs.declared.name.ZoneName.{ZoneName}
use Rattle.zone_stats.specs.declared.report.ZoneLine.{ZoneLine}

-- what a ledger counted of it
abbrev pub count_of : Count → SeatLedger → ℕ
count_of Allocs ledger = ledger.allocs
count_of Fails ledger = ledger.fails
count_of Frees ledger = ledger.frees
count_of Cross ledger = ledger.cross

-- what the seats counted together
abbrev pub total_allocs : List SeatLedger → ℕ
total_allocs ledgers = sum_by (λ ledger. ledger.allocs) ledgers

abbrev pub total_fails : List SeatLedger → ℕ
total_fails ledgers = sum_by (λ ledger. ledger.fails) ledgers

abbrev pub total_frees : List SeatLedger → ℕ
total_frees ledgers = sum_by (λ ledger. ledger.frees) ledgers

abbrev pub total_cross : List SeatLedger → ℕ
total_cross ledgers = sum_by (λ ledger. ledger.cross) ledgers

-- the items that are allocated: the allocs less the frees, and 0 where the frees are more
abbrev pub used_items : List SeatLedger → ℕ
used_items ledgers = total_allocs ledgers - total_frees ledgers

-- the line of a zone of this name, item size and limit whose seats have these ledgers, of which `out` items are out of
-- the keg, and in whose keg `keg_free` are free: FREE is what is free in the keg or out of it and not allocated, and 0
-- where more are allocated
abbrev pub zone_line : ZoneName → ℕ → ℕ → List SeatLedger → ℕ → ℕ → ZoneLine
zone_line name size limit ledgers out keg_free = record {
  name = name;
  size = size;
  limit = limit;
  used = used_items ledgers;
  free = keg_free + out - used_items ledgers;
  req = total_allocs ledgers;
  fail = total_fails ledgers;
  xdomain = total_cross ledgers;
}
