use Rattle.std.proofs.Common.{◌≡◌, ◌≤◌, ◌-◌, ◌++◌, map, vec_len}
use Rattle.std.specs.List.{All}
use Rattle.std.specs.Vec.{vec_capacity}
use Rattle.deed_book.specs.Book.{book_table, zones_of}
use Rattle.deed_book.specs.Deed.{deed_table, no_of}
use Rattle.uma_keg.proofs.RightsOut.{downward, rights_out}
use Rattle.uma_keg.proofs.rights.new_rights.Given as goal

-- the greatest numbers are outside, and their rights are in the list
abbrev pub invariant-loop-below : goal.invariant-loop-below
invariant-loop-below l = record {
  book : zones_of l.book ≡ rights_out l.below;
  numbers : map no_of l.rights.items ++ downward (8 - l.below) ≡ downward 8;
  of_book : All (λ right. deed_table right ≡ book_table l.book) l.rights.items;
  counted : vec_len l.rights ≡ l.below;
  room : 8 ≤ vec_capacity l.rights;
}
