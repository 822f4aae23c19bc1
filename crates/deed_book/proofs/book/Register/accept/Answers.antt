use Rattle.std.proofs.Common.{◌≡◌, [], None, Some, length, set, refl, sym, ap, ◌∙◌, arith, rules}
use Rattle.std.proofs.lemmas.List.{length-set}
use Rattle.atomic_table.specs.Seated.{TableId}
use Rattle.atomic_table.specs.Table.{Me}
use Rattle.deed_book.specs.declared.book.View.{View}
use Rattle.deed_book.specs.BookId.{BookId}
use Rattle.deed_book.specs.Views.{book_view}
use Rattle.deed_book.proofs.BookSteps.{accepting_allowed, putting_home_allowed, accepted}
use Rattle.deed_book.proofs.book.Register.accept.Goals as goal

pub join_seat-requires : goal.join_seat-requires
join_seat-requires c =
    let register = c.args.self.now in (
      register.one_table,
      ap (λ (book : BookId). book.table) c.requires ∙ register.one_table,
      ap (λ (m : Me (Unit {0}) View). m.1) c.args.deed.knows,
      omega (arith, register.one_word),
      accepting_allowed _ _ _ _ register.first_seat,
    )

pub load-requires : goal.load-requires
load-requires c =
    let register = c.args.self.now in
    let joined = c.join_seat.ensures in
    let deed : c.join_seat.new.seat.me.0.deed ≡ Some (c.args.deed.no, c.args.deed.zone) =
    ap (λ (m : Me (Unit {0}) View). m.0.deed) joined.2 ∙ ap (λ (m : Me (Unit {0}) View). m.0.deed) c.args.deed.knows in
    let empty : c.join_seat.new.seat.me.1 ≡ [] = ap (λ (m : Me (Unit {0}) View). m.1) joined.2 ∙ ap (λ (m : Me (Unit {0}) View). m.1) register.between_calls in (
      joined.0 ∙ register.one_table,
      omega (arith, register.one_word),
      putting_home_allowed _ _ _ (c.args.deed.no, c.args.deed.zone) (joined.1 ∙ register.first_seat) deed empty,
    )

pub invariant_of-self-clause-between_calls : goal.invariant_of-self-clause-between_calls
invariant_of-self-clause-between_calls c =
    let register = c.args.self.now in
    let told = accepted register.seat.me.0.zones (c.args.deed.no, c.args.deed.zone) _ _ _ _ register.between_calls c.args.deed.knows c.join_seat.ensures.2 c.load.ensures.2 in
    let again : Me (Unit {0}) View → Me (Unit {0}) View = λ m. (book_view m.0.zones, []) in
    told.1 ∙ ap again (sym told.1)

pub returns : goal.returns
returns c =
    let register = c.args.self.now in
    let told = accepted register.seat.me.0.zones (c.args.deed.no, c.args.deed.zone) _ _ _ _ register.between_calls c.args.deed.knows c.join_seat.ensures.2 c.load.ensures.2 in
    record {
      deed = (refl, refl);
      was_outside = told.0;
      book = ap (λ (m : Me (Unit {0}) View). m.0.zones) told.1;
      table = search rules;
    }

pub invariant_of-self-clause-counted : goal.invariant_of-self-clause-counted
invariant_of-self-clause-counted c =
    let register = c.args.self.now in
    let zones = register.seat.me.0.zones in
    let told = accepted zones (c.args.deed.no, c.args.deed.zone) _ _ _ _ register.between_calls c.args.deed.knows c.join_seat.ensures.2 c.load.ensures.2 in
    let same : length (set zones c.args.deed.no None) ≡ length zones = length-set zones c.args.deed.no None in
    let now : length c.load.new.seat.me.0.zones ≡ length zones = ap (λ (m : Me (Unit {0}) View). length m.0.zones) told.1 ∙ same in
    let kept : c.load.new.seat.table_id.slots ≡ register.seat.table_id.slots = ap (λ (t : TableId). t.slots) (c.load.ensures.0 ∙ c.join_seat.ensures.0) in
    now ∙ (register.counted ∙ sym kept)
