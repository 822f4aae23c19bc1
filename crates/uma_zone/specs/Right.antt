-- Own: what contracts see of a right that a primary zone keeps.
use Rattle.std.specs.Prelude.{◌≡◌, ◌<◌, ℕ}
use Rattle.deed_book.specs.declared.book.Book.{Book}
use Rattle.deed_book.specs.declared.deed.Deed.{Deed}
use Rattle.deed_book.specs.Deed.{BookId, deed_table, no_of}
use Rattle.deed_book.specs.Book.{book_table}
use Rattle.keyed_lock.specs.KeyedLock.{lock_key}
use Rattle.uma_zone.specs.declared.right.KeptRight.{KeptRight}

-- the book that it is of
abbrev pub right_table : KeptRight → BookId
right_table right = book_table (lock_key right.deed).rights.value

-- the number of the zone that it is a right to
abbrev pub right_no : KeptRight → ℕ
right_no right = right.no

-- a right to one of the eight zones of the keg with these rights
pub record IsRightOf (rights : Book) (right : Deed) : Type 0 where
  pub table : deed_table right ≡ book_table rights
  pub below : no_of right < 8

-- this right is kept
pub record KeepsRight (right : Deed) (kept : KeptRight) : Type 0 where
  pub table : right_table kept ≡ deed_table right
  pub no : right_no kept ≡ no_of right
