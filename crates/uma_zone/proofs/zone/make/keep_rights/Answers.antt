use Rattle.std.proofs.Common.{◌≡◌, ◌<◌, map, length, sym, ap, subst, ◌∙◌}
use Rattle.std.specs.List.{All}
use Rattle.std.proofs.lemmas.Iterator.Adapters.{YieldsList-from_vec}
use Rattle.std.proofs.lemmas.Iterator.Consumers.{YieldsList-turn}
use Rattle.std.proofs.lemmas.List.Elements.{All-nil}
use Rattle.deed_book.specs.Book.{book_table}
use Rattle.deed_book.specs.Deed.{deed_table, no_of}
use Rattle.deed_book.specs.declared.deed.Deed.{Deed}
use Rattle.uma_keg.specs.Keg.{rights_in}
use Rattle.uma_zone.specs.declared.right.KeptRight.{KeptRight}
use Rattle.uma_zone.specs.Right.{right_table, right_no}
use Rattle.uma_zone.proofs.Rights.{All-at}
use Rattle.uma_zone.proofs.zone.make.keep_rights.Goals as goal

pub loop-right-init : goal.loop-right-init
loop-right-init g c =
    let P = λ (right : KeptRight). right_table right ≡ book_table (rights_in c.args.keg.now) in
    record {
      numbers = ap (map right_no) c.new-kept.ensures.items;
      of_keg = subst (All P) (sym c.new-kept.ensures.items) (All-nil P);
    }

pub new-requires : goal.new-requires
new-requires g c =
    let rights = c.args.rights.items in
    let turn = YieldsList-turn (YieldsList-from_vec rights (cc) (cc)) c.loop-right.yielded c.loop-right.right-iterator c.loop-right.yielded_by c.next.result c.next.new.self c.in-Some.right c.in-Some.is c.next.ensures.steps in
    record {
      table = All-at (λ (right : Deed). deed_table right ≡ book_table (rights_in c.args.keg.now)) rights (length c.loop-right.yielded) c.in-Some.right c.requires.of_keg turn.0 turn.1 ∙ ap book_table (sym c.rights.ensures);
      below = All-at (λ (right : Deed). no_of right < 8) rights (length c.loop-right.yielded) c.in-Some.right c.requires.below turn.0 turn.1;
    }
