use Rattle.deed_book.proofs.BookSteps.{opens}
use Rattle.deed_book.proofs.book.Register.new.Goals as goal

pub new-requires : goal.new-requires
new-requires c = opens _
