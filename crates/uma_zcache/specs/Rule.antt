-- Own: what a cache zone keeps whenever its lock is free.
use Rattle.std.specs.Prelude.{◌≡◌, []}
use Rattle.deed_book.specs.Book.{book_table}
use Rattle.deed_book.specs.Deed.{BookId, TableId}
use Rattle.deed_book.specs.FailBook.{fail_book_table}
use Rattle.deed_book.specs.FailShare.{share_table, causes_in}
use Rattle.deed_book.specs.declared.fail_book.FailShare.{FailShare}
use Rattle.uma_zcache.specs.declared.cache.ZKey.{ZKey}
use Rattle.uma_zcache.specs.declared.locked.LockedCache.{LockedCache}
use Rattle.uma_zcache.specs.Locked.{book_in, fails_in, IsSound}

-- the book of numbers and the fail book that the key names
abbrev pub key_book : ZKey → BookId
key_book key = book_table key.book.value

abbrev pub key_fails : ZKey → TableId
key_fails key = fail_book_table key.fails.value

-- it is the cache zone that the key names, and it is sound
pub record Keeps {I : Type 0} {g : _} (key : ZKey) (locked : LockedCache I g) : Type 0 where
  pub book : book_in locked ≡ key_book key
  pub fails : fails_in locked ≡ key_fails key
  pub sound : IsSound locked

-- the share is of its fail book and has no cause, and what the lock keeps it keeps still
pub record GivesShare {I : Type 0} {g : _} (old : LockedCache I g) (share : FailShare) (new : LockedCache I g) : Type 0 where
  pub mine : share_table share ≡ fails_in old
  pub empty : causes_in share ≡ []
  pub keeps : (key : ZKey) → Keeps key old → Keeps key new
