use Rattle.std.proofs.Common.{rules, ◌≡◌, ◌-◌, refl, sym, ap, arith, ◌∙◌}
use Rattle.std.proofs.lemmas.List.Elements.{All-push, All-nil}
use Rattle.std.proofs.lemmas.List.{append-nil}
use Rattle.deed_book.specs.Book.{book_table}
use Rattle.deed_book.specs.Deed.{deed_table}
use Rattle.uma_keg.proofs.RightsOut.{right_home, right_issued, right_listed, none_out, all_out, eight_down, none_down, rights_out}
use Rattle.uma_keg.proofs.rights.new_rights.Goals as goal

pub loop-below-init : goal.loop-below-init
loop-below-init c = record {
  book = c.in-Ok.ensures.ok ∙ sym none_out;
  numbers = rw c.in_ok-rights.ensures.items refl;
  of_book = rw c.in_ok-rights.ensures.items (All-nil (λ right. deed_table right ≡ book_table c.in-Ok.book));
  counted = c.in_ok-rights.ensures.len;
  room = c.in_ok-rights.ensures.capacity;
}

pub issue-requires-clause-home : goal.issue-requires-clause-home
issue-requires-clause-home c = rw c.loop-below.invariant.book (right_home c.loop-below.below c.loop-below-test.true)

pub loop-below-preserved : goal.loop-below-preserved
loop-below-preserved c = record {
  book = c.issue.ensures.book ∙ rw c.loop-below.invariant.book (right_issued c.loop-below.below c.loop-below-test.true);
  numbers = right_listed c.loop-below.below _ _ _ _ c.loop-below-test.true c.push_reserved.ensures.items c.issue.ensures.deed.0 c.loop-below.invariant.numbers;
  of_book = rw (c.push_reserved.ensures.items, c.issue.ensures.table) (All-push (λ right. deed_table right ≡ book_table c.loop-below.book) _ _ c.loop-below.invariant.of_book c.issue.ensures.deed_table);
  counted = omega (arith, c.push_reserved.ensures.len, c.loop-below.invariant.counted);
  room = omega (arith, c.push_reserved.ensures.capacity, c.loop-below.invariant.room);
}

pub returns : goal.returns
returns c =
    let eight : c.loop-below.below ≡ 8 = omega arith in
    let none : 8 - c.loop-below.below ≡ 0 = omega arith in
    let listed = rw (none, none_down, eight_down) at c.loop-below.invariant.numbers in
    record {
      book = c.loop-below.invariant.book ∙ ap rights_out eight ∙ all_out;
      numbers = sym (append-nil _) ∙ listed;
      of_book = search rules;
    }
