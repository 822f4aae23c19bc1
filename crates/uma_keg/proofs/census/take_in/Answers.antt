use Rattle.std.proofs.Common.{◌≡◌, sym, ap, arith, ◌∙◌, Some}
use Rattle.std.proofs.lemmas.List.Elements.{All-pop, All-push, All-same}
use Rattle.deed_book.specs.Deed.{no_of, zone_of, BookId}
use Rattle.uma_life.specs.Live.{live_table}
use Rattle.uma_keg.specs.Outside.{outside_table, outside_zones}
use Rattle.uma_keg.specs.Lent.{seen_of, seen_without, IsWithoutOf}
use Rattle.uma_keg.proofs.TakenIn.{item_moved, item_taken, seen_deed}
use Rattle.uma_keg.proofs.census.take_in.Goals as goal

pub loop-item-preserved : goal.loop-item-preserved
loop-item-preserved g c =
    let kept = c.loop-item.invariant in
    let table = outside_table c.args.outside.now in
    let item = c.in-Some.item in
    let taken = c.of-item.result.0 in
    let of_book = All-pop (λ live. live_table live ≡ table) _ _ (Some item) c.in-Some.ensures.items kept.of_book in
    let same : seen_without table taken ≡ seen_of item = ap (λ t. seen_without t taken) (sym of_book.1) ∙ c.of-item.ensures.seen in
    let deed = ap (λ d. (no_of d, zone_of d)) c.of-item.ensures.deed ∙ sym (ap seen_deed same) in
    record {
      table = c.accept.ensures.table ∙ kept.table;
      of_book = of_book.0;
      counted = omega (arith, kept.counted, c.in-Some.ensures.cases, c.push_reserved.ensures.len);
      room = rw c.push_reserved.ensures.capacity kept.room;
      kept = rw c.pop.ensures.capacity kept.kept;
      items = item_moved table _ _ item _ _ taken c.in-Some.ensures.items c.push_reserved.ensures.items same ∙ kept.items;
      origins = All-same (IsWithoutOf table) _ _ c.push_reserved.ensures.items (All-push (IsWithoutOf table) _ taken kept.origins (c.of-item.ensures.origin ∙ ap (λ (book : BookId). book.origin) of_book.1));
      taken = item_taken (outside_zones c.args.outside.now) _ _ _ _ taken _ c.push_reserved.ensures.items deed c.accept.ensures.was_outside c.accept.ensures.zones kept.taken;
    }
