use Rattle.deed_book.proofs.FailSteps.{opens}
use Rattle.deed_book.proofs.fail_book.FailBook.new.Goals as goal

pub of_words-requires : goal.of_words-requires
of_words-requires c = opens
