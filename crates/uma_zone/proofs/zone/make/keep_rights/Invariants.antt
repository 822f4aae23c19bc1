-- The rights so far are kept, in their order.
use Rattle.std.proofs.Common.{◌≡◌, map}
use Rattle.std.specs.List.{All}
use Rattle.deed_book.specs.Book.{book_table}
use Rattle.deed_book.specs.Deed.{no_of}
use Rattle.uma_keg.specs.Keg.{rights_in}
use Rattle.uma_zone.specs.Right.{right_table, right_no}
use Rattle.uma_zone.proofs.zone.make.keep_rights.Given as goal

abbrev pub invariant-loop-right : goal.invariant-loop-right
invariant-loop-right g l = record {
  numbers : map right_no l.kept.items ≡ map no_of l.yielded;
  of_keg : All (λ right. right_table right ≡ book_table (rights_in l.keg)) l.kept.items;
}
