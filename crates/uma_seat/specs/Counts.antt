-- Own: what contracts see of the counts of a seat.
use Rattle.std.specs.Prelude.{List}
use Rattle.deed_book.specs.declared.deed.Cause.{Cause}
use Rattle.deed_book.specs.Deed.{TableId}
use Rattle.deed_book.specs.FailShare.{share_table, causes_in}
use Rattle.zone_stats.specs.declared.ledger.SeatLedger.{SeatLedger}
use Rattle.uma_seat.specs.declared.counts.Counts.{Counts}

abbrev pub ledger_in : Counts → SeatLedger
ledger_in counts = counts.ledger

-- each fetch of the seat, by how it ended
abbrev pub fetches_in : Counts → List Cause
fetches_in counts = causes_in counts.share

-- the table of the zone's fail book
abbrev pub fails_in : Counts → TableId
fails_in counts = share_table counts.share
