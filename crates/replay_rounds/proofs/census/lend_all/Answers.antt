use Rattle.std.proofs.Common.{◌≡◌, ◌<◌, ◌++◌, List, [], length, get_or, set, ap, ◌∙◌}
use Rattle.replay_worker.specs.declared.worker.Worker.{Worker}
use Rattle.replay_rounds.specs.Slots.{in_keg, lender, lent_items, marks_of}
use Rattle.replay_rounds.proofs.Loops.{flat-next, map-next, written-entry, written-next}
use Rattle.replay_rounds.proofs.census.lend_all.Goals as goal

pub loop-number-preserved : goal.loop-number-preserved
loop-number-preserved g c =
    let of = in_keg c.args.head.now.zones c.args.place in
    let i = c.loop-number.number in
    let old : List (Worker _ _ _) = c.args.workers.now in
    let now : List (Worker _ _ _) = c.loop-number.workers in
    let kept = c.loop-number.invariant in
    let lent = c.in_ok-lend_by.ensures in
    let w : Worker _ _ _ = c.index-workers-number.result in
    let below : i < length old = c.loop-number-test.true in
    let same : get_or now i w ≡ get_or old i w = written-entry (lender of) old now i w below kept.left in
    record {
      left = ap (set now i) lent.left ∙ written-next (lender of) old now i w below kept.left;
      marks = map-next (λ w. marks_of of w.slots) old i w c.loop-number.marks.items c.push.new.self.items _ below kept.marks (lent.marks ∙ ap (λ (w : Worker _ _ _). marks_of of w.slots) same) c.in_ok-push.ensures.items;
      lives = flat-next (λ w. lent_items of w.slots) [] old i w c.loop-number.lives.items c.lend_by.new.lives.items below kept.lives (lent.lives ∙ ap (λ (w : Worker _ _ _). c.loop-number.lives.items ++ lent_items of w.slots) same);
    }
