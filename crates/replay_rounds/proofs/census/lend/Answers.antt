use Rattle.std.proofs.Common.{◌≡◌, ◌<◌, ◌++◌, List, Option, None, length, get_or, ap, ◌∙◌}
use Rattle.std.specs.Prelude.{option_to_list}
use Rattle.replay_worker.specs.declared.worker.Held.{Held}
use Rattle.replay_rounds.specs.Slots.{in_keg, left_of, lent_item, mark_of}
use Rattle.replay_rounds.proofs.Loops.{below_as, flat-next, map-next, written-entry, written-next}
use Rattle.replay_rounds.proofs.census.lend.Goals as goal

pub loop-slot-preserved : goal.loop-slot-preserved
loop-slot-preserved c =
    let of = in_keg c.args.head.now.zones c.args.place in
    let i = c.loop-slot.slot in
    let old : List (Option Held) = c.args.slots.now in
    let now : List (Option Held) = c.loop-slot.slots in
    let kept = c.loop-slot.invariant in
    let lent = c.in_ok-lend_one.ensures in
    let none : Option Held = None in
    let below : i < length old = below_as i c.len-count.result (length old) c.loop-slot-test.true c.len-count.ensures in
    let same : get_or now i none ≡ get_or old i none = written-entry (left_of of) old now i none below kept.left in
    record {
      left = lent.left ∙ written-next (left_of of) old now i none below kept.left;
      marks = map-next (mark_of of) old i none c.loop-slot.marks.items c.push.new.self.items _ below kept.marks (lent.mark ∙ ap (mark_of of) same) c.in_ok-push.ensures.items;
      lives = flat-next (λ slot. option_to_list (lent_item of slot)) c.args.lives.now.items old i none c.loop-slot.lives.items c.lend_one.new.lives.items below kept.lives (lent.lives ∙ ap (λ slot. c.loop-slot.lives.items ++ option_to_list (lent_item of slot)) same);
    }
