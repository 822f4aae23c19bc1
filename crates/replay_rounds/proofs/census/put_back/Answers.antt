use Rattle.std.proofs.Common.{List, Option, None, length, reverse, take, ap, sym, ◌∙◌}
use Rattle.replay_worker.specs.declared.worker.Held.{Held}
use Rattle.replay_rounds.specs.Slots.{next_held, next_lives}
use Rattle.replay_rounds.proofs.Loops.{below_as, remains-next, threaded-length, threaded-next}
use Rattle.replay_rounds.proofs.census.put_back.Goals as goal

pub put_one-requires : goal.put_one-requires
put_one-requires c =
    let marks = c.args.marks.now in
    let size = ap length c.loop-slot.invariant.slots ∙ threaded-length next_held next_lives (take c.loop-slot.slot marks) (reverse c.args.lives.now.items) c.args.slots.now in
    record { within = below_as c.loop-slot.slot (length marks) (length c.loop-slot.slots) c.loop-slot-test.true (c.requires.same ∙ sym size) }

pub loop-slot-preserved : goal.loop-slot-preserved
loop-slot-preserved c =
    let i = c.loop-slot.slot in
    let marks = c.args.marks.now in
    let old : List (Option Held) = c.args.slots.now in
    let none : Option Held = None in
    let kept = c.loop-slot.invariant in
    let within = below_as i (length marks) (length old) c.loop-slot-test.true c.requires.same in
    record {
      slots = c.in_ok-put_one.ensures.slots ∙ threaded-next next_held next_lives marks (reverse c.args.lives.now.items) (reverse c.loop-slot.lives.items) old c.loop-slot.slots i _ none c.loop-slot-test.true within kept.lives kept.slots;
      lives = c.in_ok-put_one.ensures.lives ∙ remains-next next_lives marks (reverse c.args.lives.now.items) (reverse c.loop-slot.lives.items) i _ c.loop-slot-test.true kept.lives;
    }
