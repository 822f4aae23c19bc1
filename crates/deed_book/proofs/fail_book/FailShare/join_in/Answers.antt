use Rattle.std.proofs.Common.{arith}
use Rattle.deed_book.proofs.FailSteps.{joining_allowed}
use Rattle.deed_book.proofs.fail_book.FailShare.join_in.Goals as goal

pub join_seat-requires : goal.join_seat-requires
join_seat-requires c =
    let other = c.args.other in
    (c.requires.mine, c.requires.other, other.no_slots, omega (arith, c.requires.words), joining_allowed _ _ _ _ other.not_raised)
