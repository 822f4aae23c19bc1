use Rattle.std.proofs.Common.{rules, ◌≡◌, Some, sym, ap, arith, ◌∙◌}
use Rattle.std.proofs.lemmas.List.Elements.{All-pop}
use Rattle.deed_book.specs.Deed.{BookId}
use Rattle.uma_keg.specs.Outside.{outside_table, outside_zones}
use Rattle.uma_keg.specs.Lent.{seen_of, seen_without, IsWithoutOf}
use Rattle.uma_keg.proofs.TakenIn.{item_moved, last_taken, last_home, last_issued}
use Rattle.uma_keg.proofs.census.issue_again.Goals as goal

pub issue-requires : goal.issue-requires
issue-requires g c = record {
  home = last_home _ _ _ c.deed-no.result _ (last_taken (outside_zones c.args.before.value) (outside_zones c.loop-item.outside) _ _ c.in-Some.item c.in-Some.ensures.items c.loop-item.invariant.taken) c.deed-no.ensures;
  zone = search rules;
}

pub with-requires : goal.with-requires
with-requires g c =
    let kept = c.loop-item.invariant in
    let of_book = All-pop (IsWithoutOf (outside_table c.args.outside.now)) _ _ (Some c.in-Some.item) c.in-Some.ensures.items kept.origins in
    record { numbers = search rules; origin = of_book.1 ∙ sym (ap (λ (book : BookId). book.origin) (c.issue.ensures.deed_table ∙ kept.table)) }

pub loop-item-preserved : goal.loop-item-preserved
loop-item-preserved g c =
    let kept = c.loop-item.invariant in
    let table = outside_table c.args.outside.now in
    let item = c.in-Some.item in
    let last = last_taken (outside_zones c.args.before.value) (outside_zones c.loop-item.outside) _ _ item c.in-Some.ensures.items kept.taken in
    let same : seen_without table item ≡ seen_of c.with.result = sym (c.with.ensures ∙ ap (λ t. seen_without t item) (c.issue.ensures.deed_table ∙ kept.table)) in
    record {
      table = c.issue.ensures.table ∙ kept.table;
      counted = omega (arith, kept.counted, c.in-Some.ensures.cases, c.push_reserved.ensures.len);
      room = rw c.push_reserved.ensures.capacity kept.room;
      items = sym (item_moved table _ _ c.with.result _ _ item c.push_reserved.ensures.items c.in-Some.ensures.items same) ∙ kept.items;
      origins = (All-pop (IsWithoutOf table) _ _ (Some item) c.in-Some.ensures.items kept.origins).0;
      taken = last_issued _ _ _ c.deed-no.result _ _ last c.deed-no.ensures c.issue.ensures.zones;
    }
