use Rattle.deed_book.proofs.FailSteps.{adds_up}
use Rattle.deed_book.proofs.fail_book.shares_add_up_to_their_book.Goals as goal

pub returns : goal.returns
returns c = λ state book law at. adds_up state.views book law at
