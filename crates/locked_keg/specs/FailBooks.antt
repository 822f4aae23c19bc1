-- Own: what contracts see of the fail books of a keg's zones, and how the end of a fetch is listed in one.
use Rattle.std.specs.Prelude.{◌≡◌, ◌≢◌, ◌++◌, ◌∷◌, ℕ, true, List, [], Option, Some, map, slice_get, slice_index_or}
use Rattle.zone_stats.specs.LedgerSteps.{HasRoom}
use Rattle.deed_book.specs.declared.deed.Cause.{Cause}
use Rattle.deed_book.specs.declared.fail_book.FailShare.{FailShare}
use Rattle.deed_book.specs.Deed.{TableId}
use Rattle.deed_book.specs.FailBook.{fail_book_table, causes_of}
use Rattle.deed_book.specs.FailShare.{share_table, causes_in}
use Rattle.uma_seat.specs.declared.counts.FetchEnd.{FetchEnd}
use Rattle.uma_seat.specs.declared.seat.SeatCache.{SeatCache}
use Rattle.uma_seat.specs.Fetches.{end_cause, is_of_keg, CountsEnd}
use Rattle.uma_seat.specs.Seat.{ledger_of, fetches_of, seat_fails, KeepsLists}
use Rattle.locked_keg.specs.declared.locked_keg.FailBooks.{FailBooks}

-- the table of a zone's book, which tells it from every other book
abbrev pub table_at : FailBooks → ℕ → Option TableId
table_at books zone = slice_get (map fail_book_table books.books) zone

-- all that the book of a zone listed, in order
abbrev pub causes_at : FailBooks → ℕ → List Cause
causes_at books zone = slice_index_or (map causes_of books.books) zone []

-- the share is of the zone's book and lists nothing; each book lists what it listed
pub record GivesShare (old : FailBooks) (zone : ℕ) (share : FailShare) (new : FailBooks) : Type 0 where
  pub empty : causes_in share ≡ []
  pub mine : table_at old zone ≡ Some (share_table share)
  pub causes : (at : ℕ) → causes_at new at ≡ causes_at old at
  pub tables : (at : ℕ) → table_at new at ≡ table_at old at

module _ {T H P : Type 0} {g h : _} where
  -- the seat's share is of the zone's book, its ledger has room, and a keg's fetch may end so
  pub record MayList (books : FailBooks) (zone : ℕ) (seat : SeatCache T H P g h) (end : FetchEnd) : Type 0 where
    pub mine : table_at books zone ≡ Some (seat_fails seat)
    pub room : HasRoom (ledger_of seat)
    pub of_keg : is_of_keg end ≡ true

  -- The end is listed in the zone's book and in the seat's share of it, and the seat's ledger counts it. All else stays.
  pub record Lists (old : FailBooks) (zone : ℕ) (was : SeatCache T H P g h) (end : FetchEnd) (new : FailBooks) (is : SeatCache T H P g h) : Type 0 where
    pub ledger : CountsEnd (ledger_of was) (ledger_of is) end
    pub share : fetches_of is ≡ fetches_of was ++ end_cause end ∷ []
    pub causes : causes_at new zone ≡ causes_at old zone ++ end_cause end ∷ []
    pub others : (at : ℕ) → at ≢ zone → causes_at new at ≡ causes_at old at
    pub tables : (at : ℕ) → table_at new at ≡ table_at old at
    pub fails : seat_fails is ≡ seat_fails was
    pub lists : KeepsLists was is
