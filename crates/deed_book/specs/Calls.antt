-- Own: what the calls of a book, of its register and of a fail book make, and what they leave as it was.
use Rattle.std.specs.Prelude.{◌≡◌, [], ◌∷◌, ◌++◌, ℕ, List, Option, Some, None, Result, Err, IfOk, IfErr, slice_set, replicate}
use Rattle.deed_book.specs.declared.book.Book.{Book}
use Rattle.deed_book.specs.declared.deed.Cause.{Cause}
use Rattle.deed_book.specs.declared.deed.Deed.{Deed}
use Rattle.deed_book.specs.declared.fail_book.FailBook.{FailBook}
use Rattle.deed_book.specs.declared.fail_book.FailShare.{FailShare}
use Rattle.deed_book.specs.declared.deed.BookRefused.{BookRefused}
use Rattle.deed_book.specs.declared.deed.BookRefused.TheVariants.{Numbers}
use Rattle.deed_book.specs.Book.{book_table, zones_of, IsOutOfRange, BookIsRefused}
use Rattle.deed_book.specs.BookId.{BookId, TableId, numbers_of}
use Rattle.deed_book.specs.BookLaw.{IsOutside}
use Rattle.deed_book.specs.Deed.{deed_table as table_of_deed, label_of, no_of, zone_of}
use Rattle.deed_book.specs.FailBook.{fail_book_table, causes_of}
use Rattle.deed_book.specs.FailShare.{share_table as table_of_share, causes_in}

-- A book of so many numbers is made for this origin, and all are at home. It is refused exactly where no book has so many, and else only for memory.
pub record MakesBook (many : ℕ) (made_for : List ℕ) (result : Result Book BookRefused) : Type 0 where
  pub ok : IfOk result (λ made. zones_of made ≡ replicate many None)
  pub numbers : IfOk result (λ made. numbers_of (book_table made) ≡ many)
  pub origin : IfOk result (λ made. (book_table made).origin ≡ made_for)
  pub out_of_range : IsOutOfRange many → result ≡ Err (Numbers many)
  pub err : IfErr result (BookIsRefused many)

-- The deed is of this number, zone and book, without a label. The number is outside, with the zone, and nothing else changes.
pub record IssuesDeed (no zone : ℕ) (id : BookId) (was : List (Option ℕ)) (issued : Deed) (id' : BookId) (is : List (Option ℕ)) : Type 0 where
  pub deed : (no_of issued ≡ no) × (zone_of issued ≡ zone)
  pub unlabelled : label_of issued ≡ 0
  pub book : is ≡ slice_set was no (Some zone)
  pub table : id' ≡ id
  pub deed_table : table_of_deed issued ≡ id

-- The deed's number and zone are told. The number was outside, with the zone, and is at home again; nothing else changes.
pub record AcceptsDeed (accepted : Deed) (id : BookId) (was : List (Option ℕ)) (told : ℕ × ℕ) (id' : BookId) (is : List (Option ℕ)) : Type 0 where
  pub deed : (told.0 ≡ no_of accepted) × (told.1 ≡ zone_of accepted)
  pub was_outside : IsOutside was told
  pub book : is ≡ slice_set was told.0 None
  pub table : id' ≡ id

-- The share is of this book, and has no cause. The book is as it was.
pub record OpensShare (old : FailBook) (opened : FailShare) (new : FailBook) : Type 0 where
  pub share : causes_in opened ≡ []
  pub book : causes_of new ≡ causes_of old
  pub table : fail_book_table new ≡ fail_book_table old
  pub share_table : table_of_share opened ≡ fail_book_table old

-- One cause more is in the book, and in the unit that was split off.
pub record RaisesUnit (added : Cause) (old : FailBook) (split : FailShare) (new : FailBook) : Type 0 where
  pub unit : causes_in split ≡ added ∷ []
  pub book : causes_of new ≡ causes_of old ++ added ∷ []
  pub table : fail_book_table new ≡ fail_book_table old
  pub unit_table : table_of_share split ≡ fail_book_table old

-- One cause more is in the book and in its share, at the end of both.
pub record AddsCause (added : Cause) (old : FailBook) (was : FailShare) (new : FailBook) (is : FailShare) : Type 0 where
  pub book : causes_of new ≡ causes_of old ++ added ∷ []
  pub share : causes_in is ≡ causes_in was ++ added ∷ []
  pub table : fail_book_table new ≡ fail_book_table old
  pub share_table : table_of_share is ≡ table_of_share was

-- Both are shares of the table with this name, which has three words.
pub record CanJoinIn (table : TableId) (into joined : FailShare) : Type 0 where
  pub mine : table_of_share into ≡ table
  pub other : table_of_share joined ≡ table
  pub words : table.words ≡ 3
