use Rattle.std.proofs.Common.{List, [], ap}
use Rattle.std.specs.List.{slice_get}
use Rattle.deed_book.specs.Deed.{TableId}
use Rattle.deed_book.specs.FailBook.{fail_book_table, causes_of}
use Rattle.uma_seat.specs.Fetches.{end_cause}
use Rattle.locked_keg.proofs.Entries.{same_map, more_entry, other_entry, within_map}
use Rattle.locked_keg.proofs.locked_keg.FailBooks.list_end.Goals as goal

pub returns : goal.returns
returns g c = record {
  ledger = c.count_end.ensures.ledger;
  share = c.count_end.ensures.fetches;
  causes = more_entry causes_of c.args.self.now.books c.from.result c.args.zone c.index-self-from.result c.count_end.new.book (end_cause c.args.end) c.from.ensures
      (within_map fail_book_table c.args.self.now.books c.args.zone _ c.requires.mine) c.count_end.ensures.book;
  others = λ at ne. other_entry causes_of c.args.self.now.books c.from.result c.args.zone at c.count_end.new.book [] c.from.ensures ne;
  tables = λ at. ap (λ (tables : List TableId). slice_get tables at) (same_map fail_book_table c.args.self.now.books c.from.result c.index-self-from.result c.count_end.new.book c.count_end.ensures.book_table);
  fails = c.count_end.ensures.fails;
  lists = c.count_end.ensures.lists;
}
