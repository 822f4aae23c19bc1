-- Own: what contracts see of an item that is outside.
use Rattle.std.specs.Prelude.{◌≡◌, ◌<◌, ℕ}
use Rattle.deed_book.specs.BookId.{numbers_of}
use Rattle.deed_book.specs.Deed.{BookId, deed_table, no_of}
use Rattle.uma_zcache.specs.declared.cache.Held.{Held}

abbrev pub held_base : Held → ℕ
held_base held = held.base

abbrev pub held_no : Held → ℕ
held_no held = no_of held.deed

-- the book of its cache zone, which tells it from every other one
abbrev pub held_book : Held → BookId
held_book held = deed_table held.deed

-- it is the item's number, one of its cache zone
pub record IsNoOf (held : Held) (answer : ℕ) : Type 0 where
  pub number : answer ≡ held_no held
  pub below : answer < numbers_of (held_book held)
