-- A line of a table, by what its parts are.
use Rattle.std.proofs.Common.{◌≡◌, ℕ, List, refl, slice_index_or}
use Rattle.zone_stats.specs.declared.ledger.SeatLedger.{SeatLedger}
use Rattle.zone_stats.specs.declared.name.ZoneName.{ZoneName}
use Rattle.zone_stats.specs.Line.{zone_line}

pub same_line : (size limit : ℕ) (ledgers counts : List SeatLedger) (a b : ZoneName) (outs found : List ℕ) (free told : ℕ) → ledgers ≡ counts → a ≡ b → outs ≡ found → free ≡ told
    → zone_line a size limit ledgers (slice_index_or outs 0 0) free ≡ zone_line b size limit counts (slice_index_or found 0 0) told
same_line size limit ledgers counts a b outs found free told all name out count = rw (all, name, out, count) refl
