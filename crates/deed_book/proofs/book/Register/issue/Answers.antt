use Rattle.std.proofs.Common.{◌≡◌, ◌/◌, Some, None, ap, ◌∙◌, arith}
use Rattle.std.specs.Prelude.{slice_get}
use Rattle.deed_book.proofs.BookSteps.{naming_allowed, splitting_allowed}
use Rattle.deed_book.proofs.book.Register.issue.Goals as goal

pub store-requires : goal.store-requires
store-requires c =
    let register = c.args.self.now in
    let zones = register.seat.me.0.zones in
    let home : slice_get zones (c.spelled.result / 8) ≡ Some None = ap (slice_get zones) c.spelled.ensures.0 ∙ c.requires.home in
    (register.one_table, omega (arith, register.one_word), naming_allowed _ _ _ zones _ register.first_seat register.between_calls home)

pub split_seat-seat-requires : goal.split_seat-seat-requires
split_seat-seat-requires c =
    let register = c.args.self.now in
    (c.store.ensures.0 ∙ register.one_table, omega (arith, register.one_word), splitting_allowed _ _ (c.store.ensures.1 ∙ register.first_seat))
