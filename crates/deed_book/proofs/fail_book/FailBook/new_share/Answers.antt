use Rattle.std.proofs.Common.{arith}
use Rattle.deed_book.proofs.FailSteps.{splitting_allowed}
use Rattle.deed_book.proofs.fail_book.FailBook.new_share.Goals as goal

pub split_seat-seat-requires : goal.split_seat-seat-requires
split_seat-seat-requires c =
    let book = c.args.self.now in
    (book.one_table, omega (arith, book.three_words), splitting_allowed _ _ book.first_seat)
