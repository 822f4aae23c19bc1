-- Own: which book it is. A book and all its deeds have one table and one origin, so they agree about both.
use Rattle.std.specs.Prelude.{ℕ, List}
pub use Rattle.atomic_table.specs.Seated.{TableId}

-- No two books have one table. The origin is what the book was made for, as numbers.
pub record BookId : Type 0 where
  pub table : TableId
  pub origin : List ℕ

-- how many numbers the book has
abbrev pub numbers_of : BookId → ℕ
numbers_of book = book.table.slots
