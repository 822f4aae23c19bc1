-- Own: what contracts see of a fail book.
use Rattle.std.specs.Prelude.{List}
use Rattle.atomic_table.specs.Seated.{TableId}
use Rattle.deed_book.specs.declared.deed.Cause.{Cause}
use Rattle.deed_book.specs.declared.fail_book.FailBook.{FailBook}

-- which fail book it is: no two have one table
abbrev pub fail_book_table : FailBook → TableId
fail_book_table book = book.seat.table_id

-- the causes of all that it counted, in order. Their count is the number of the book
abbrev pub causes_of : FailBook → List Cause
causes_of book = book.seat.me.0.raised
