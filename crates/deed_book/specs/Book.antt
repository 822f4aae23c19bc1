-- Own: what contracts see of a book.
use Rattle.std.specs.Prelude.{◌≡◌, ◌<◌, ◌≤◌, ◌⊎◌, ℕ, List, Option}
use Rattle.deed_book.specs.declared.book.Book.{Book}
use Rattle.deed_book.specs.declared.deed.BookRefused.{BookRefused}
use Rattle.deed_book.specs.declared.deed.BookRefused.TheVariants.{Numbers, Memory}
use Rattle.deed_book.specs.BookId.{BookId}
use Rattle.deed_book.specs.Register.{register_table}

-- which book it is
abbrev pub book_table : Book → BookId
book_table book = register_table book.register

-- for each number the zone of its deed, or None where the number is at home
abbrev pub zones_of : Book → List (Option ℕ)
zones_of book = book.zones.items

-- no book has this count of numbers
abbrev pub IsOutOfRange : ℕ → Type 0
IsOutOfRange numbers = (numbers < 1) ⊎ (262144 < numbers)

-- why a book of so many numbers is refused: for the count, which is named, or else for memory
abbrev pub BookIsRefused : ℕ → BookRefused → Type 0
BookIsRefused numbers (Numbers named) = (named ≡ numbers) × IsOutOfRange numbers
BookIsRefused numbers Memory = (1 ≤ numbers) × (numbers ≤ 262144)
