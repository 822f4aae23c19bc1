-- Own: what a call that counts needs, and what it makes of the counts of a seat.
use Rattle.std.specs.Prelude.{◌≡◌, [], ◌∷◌, ◌++◌, true, false}
use Rattle.deed_book.specs.declared.fail_book.FailBook.{FailBook}
use Rattle.deed_book.specs.declared.fail_book.FailShare.{FailShare}
use Rattle.deed_book.specs.FailBook.{fail_book_table, causes_of}
use Rattle.deed_book.specs.FailShare.{share_table}
use Rattle.zone_stats.specs.declared.refusal.Refusal.{Refusal}
use Rattle.zone_stats.specs.Ledger.{is_ctor}
use Rattle.zone_stats.specs.LedgerSteps.{HasRoom, IsNew}
use Rattle.uma_seat.specs.declared.counts.Counts.{Counts}
use Rattle.uma_seat.specs.declared.counts.FetchEnd.{FetchEnd}
use Rattle.uma_seat.specs.declared.seat.SeatCache.{SeatCache}
use Rattle.uma_seat.specs.Counts.{ledger_in, fetches_in, fails_in}
use Rattle.uma_seat.specs.Fetches.{end_cause, is_of_keg, CountsEnd}
use Rattle.uma_seat.specs.Seat.{ledger_of, fetches_of, seat_fails, KeepsLists}

-- there is room for one request more, the book is that of the counts, and no `ctor` refused
pub record CanListRefusal (counts : Counts) (book : FailBook) (refusal : Refusal) : Type 0 where
  pub room : HasRoom (ledger_in counts)
  pub mine : fails_in counts ≡ fail_book_table book
  pub turned : is_ctor refusal ≡ false

-- so too for a fetch that ended as one by a keg does
pub record CanListEnd (counts : Counts) (book : FailBook) (end : FetchEnd) : Type 0 where
  pub room : HasRoom (ledger_in counts)
  pub mine : fails_in counts ≡ fail_book_table book
  pub of_keg : is_of_keg end ≡ true

-- nothing was counted or listed yet
pub record IsNewCounts (share : FailShare) (counts : Counts) : Type 0 where
  pub ledger : IsNew (ledger_in counts)
  pub fetches : fetches_in counts ≡ []
  pub table : fails_in counts ≡ share_table share

-- no fetch more is listed
pub record KeepsShare (old new : Counts) : Type 0 where
  pub fetches : fetches_in new ≡ fetches_in old
  pub table : fails_in new ≡ fails_in old

-- The fetch is listed with its end in the book and in the share, and counted where it was refused.
pub record ListsEnd (old : Counts) (was : FailBook) (end : FetchEnd) (new : Counts) (is : FailBook) : Type 0 where
  pub ledger : CountsEnd (ledger_in old) (ledger_in new) end
  pub fetches : fetches_in new ≡ fetches_in old ++ end_cause end ∷ []
  pub book : causes_of is ≡ causes_of was ++ end_cause end ∷ []
  pub table : fails_in new ≡ fails_in old
  pub book_table : fail_book_table is ≡ fail_book_table was

module _ {T H P : Type 0} {g h : _} where
  -- The same of a seat, of which nothing but its counts changes.
  pub record CountsFetch (old : SeatCache T H P g h) (was : FailBook) (end : FetchEnd) (new : SeatCache T H P g h) (is : FailBook) : Type 0 where
    pub ledger : CountsEnd (ledger_of old) (ledger_of new) end
    pub fetches : fetches_of new ≡ fetches_of old ++ end_cause end ∷ []
    pub book : causes_of is ≡ causes_of was ++ end_cause end ∷ []
    pub fails : seat_fails new ≡ seat_fails old
    pub book_table : fail_book_table is ≡ fail_book_table was
    pub lists : KeepsLists old new
