use Rattle.std.proofs.Common.{rules, List, [], ap, slice_index_or}
use Rattle.std.specs.List.{slice_get}
use Rattle.deed_book.specs.Deed.{TableId}
use Rattle.deed_book.specs.declared.deed.Cause.{Cause}
use Rattle.deed_book.specs.FailBook.{fail_book_table, causes_of}
use Rattle.locked_keg.proofs.Entries.{same_map, entry_there}
use Rattle.locked_keg.proofs.locked_keg.FailBooks.new_share.Goals as goal

pub returns : goal.returns
returns c = record {
  empty = c.new_share.ensures.share;
  mine = entry_there fail_book_table c.args.self.now.books c.from.result c.args.zone c.index-self-from.result _ c.from.ensures (search rules) c.new_share.ensures.share_table;
  causes = λ at. ap (λ (causes : List (List Cause)). slice_index_or causes at []) (same_map causes_of c.args.self.now.books c.from.result c.index-self-from.result c.new_share.new.self c.new_share.ensures.book);
  tables = λ at. ap (λ (tables : List TableId). slice_get tables at) (same_map fail_book_table c.args.self.now.books c.from.result c.index-self-from.result c.new_share.new.self c.new_share.ensures.table);
}
