use Rattle.std.proofs.Common.{arith, ap, ◌∙◌}
use Rattle.atomic_table.specs.Table.{Me}
use Rattle.deed_book.specs.declared.fail_book.FailView.{FailView}
use Rattle.deed_book.proofs.FailSteps.{storing_first_allowed, storing_second_allowed, raising_allowed, splitting_allowed}
use Rattle.deed_book.proofs.fail_book.FailBook.raise.Goals as goal

pub store-requires : goal.store-requires
store-requires c =
    let book = c.args.self.now in
    (book.one_table, omega (arith, book.three_words), storing_first_allowed _ _ _ _ _ book.first_seat)

pub store-requires-2 : goal.store-requires-2
store-requires-2 c =
    let book = c.args.self.now in
    let first = c.store.ensures in
    (first.0 ∙ book.one_table, omega (arith, book.three_words), storing_second_allowed _ _ _ _ _ (first.1 ∙ book.first_seat))

pub store-requires-3 : goal.store-requires-3
store-requires-3 c =
    let book = c.args.self.now in
    let first = c.store.ensures in
    let second = c.store-2.ensures in
    let none = ap (λ (m : Me (Unit {0}) FailView). m.0.pending) second.2 ∙ ap (λ (m : Me (Unit {0}) FailView). m.0.pending) first.2 ∙ book.settled in
    (second.0 ∙ first.0 ∙ book.one_table, omega (arith, book.three_words), raising_allowed _ _ _ _ _ (second.1 ∙ first.1 ∙ book.first_seat) none)

pub split_seat-seat-requires : goal.split_seat-seat-requires
split_seat-seat-requires c =
    let book = c.args.self.now in
    let first = c.store.ensures in
    let second = c.store-2.ensures in
    let third = c.store-3.ensures in (
      third.0 ∙ second.0 ∙ first.0 ∙ book.one_table,
      omega (arith, book.three_words),
      splitting_allowed _ _ (third.1 ∙ second.1 ∙ first.1 ∙ book.first_seat),
    )
