-- Own: what contracts see of a share.
use Rattle.std.specs.Prelude.{List}
use Rattle.atomic_table.specs.Seated.{TableId}
use Rattle.deed_book.specs.declared.deed.Cause.{Cause}
use Rattle.deed_book.specs.declared.fail_book.FailShare.{FailShare}

-- the table of the fail book that it is a share of
abbrev pub share_table : FailShare → TableId
share_table share = share.seat.table_id

-- its causes, in order. Their count is the number of the share
abbrev pub causes_in : FailShare → List Cause
causes_in share = share.seat.me.0.held
