-- Own: what contracts see of what lies behind a cache zone's lock, and what it always keeps.
use Rattle.std.specs.Prelude.{◌≡◌, ◌≤◌, ℕ, List, [], ◌∷◌, Option, Some, None, map, replicate}
use Rattle.deed_book.specs.declared.deed.Cause.{Cause}
use Rattle.deed_book.specs.Book.{book_table, zones_of}
use Rattle.deed_book.specs.BookId.{numbers_of}
use Rattle.deed_book.specs.Deed.{BookId, TableId}
use Rattle.deed_book.specs.FailBook.{fail_book_table, causes_of}
use Rattle.uma_zcache.specs.declared.locked.LockedCache.{LockedCache}
use Rattle.uma_zcache.specs.declared.refused.ZAllocRefused.{ZAllocRefused}
use Rattle.uma_zcache.specs.declared.refused.ZAllocRefused.TheVariants.{Out, NoFit, Memory}
use Rattle.uma_zcache.specs.Bases.{times}
use Rattle.uma_zcache.specs.Entries.{numbers_with}
use Rattle.uma_zcache.specs.Refused.{alloc_cause}

-- a number with a base is out in the book, where it is issued to zone 0; one without is at home there
abbrev pub zone_with : Option ℕ → Option ℕ
zone_with None = None
zone_with (Some base) = Some 0

-- a refusal is counted but for want of memory
abbrev pub counted : ZAllocRefused → List ZAllocRefused
counted (Out out numbers) = Out out numbers ∷ []
counted (NoFit size greatest) = NoFit size greatest ∷ []
counted Memory = []

module _ {I : Type 0} {g : _} where
  -- by number its base, or None where it is at home
  abbrev pub entries_in : LockedCache I g → List (Option ℕ)
  entries_in locked = locked.entries

  -- the bases that its importer says are outside
  abbrev pub outside_in : LockedCache I g → List ℕ
  outside_in locked = g.outside locked.import

  -- where its importer gives none for another cause than memory
  abbrev pub lacks_in : LockedCache I g → ℕ → ℕ → Type 0
  lacks_in locked size greatest = g.lacks locked.import size greatest

  -- its book of numbers, and what that says of each number
  abbrev pub book_in : LockedCache I g → BookId
  book_in locked = book_table locked.book

  abbrev pub zones_in : LockedCache I g → List (Option ℕ)
  zones_in locked = zones_of locked.book

  -- its fail book, and the causes in it
  abbrev pub fails_in : LockedCache I g → TableId
  fails_in locked = fail_book_table locked.fails

  abbrev pub causes_in_book : LockedCache I g → List Cause
  causes_in_book locked = causes_of locked.fails

  -- The refusals of the import rounds that gave no item for another cause than memory, in order. The length of the list is how many were turned away.
  abbrev pub turned_in : LockedCache I g → List ZAllocRefused
  turned_in locked = locked.turned

  -- 1. The numbers that are out in its book are those with a base.
  -- 2. No two numbers have one base.
  -- 3. The bases are exactly those that the importer has outside.
  -- 4. The fail book lists the causes of the refusals that were turned away.
  pub record IsSound (locked : LockedCache I g) : Type 0 where
    pub numbers : zones_in locked ≡ map zone_with (entries_in locked)
    pub distinct : (base : ℕ) → numbers_with base (entries_in locked) ≤ 1
    pub exact : (base : ℕ) → numbers_with base (entries_in locked) ≡ times base (outside_in locked)
    pub listed : causes_in_book locked ≡ map alloc_cause (turned_in locked)

  -- it has so many numbers, all at home
  pub record IsNewCache (count : ℕ) (locked : LockedCache I g) : Type 0 where
    pub home : entries_in locked ≡ replicate count None
    pub numbers : numbers_of (book_in locked) ≡ count
    pub sound : IsSound locked

  -- it is the same cache zone: by its book of numbers and its fail book
  pub record IsSameCache (old new : LockedCache I g) : Type 0 where
    pub book : book_in new ≡ book_in old
    pub fails : fails_in new ≡ fails_in old

  -- nothing is counted
  pub record CountsNothing (old new : LockedCache I g) : Type 0 where
    pub causes : causes_in_book new ≡ causes_in_book old
    pub turned : turned_in new ≡ turned_in old

  -- no number goes out or comes home, and no base
  pub record MovesNothing (old new : LockedCache I g) : Type 0 where
    pub entries : entries_in new ≡ entries_in old
    pub outside : outside_in new ≡ outside_in old
