-- The slots below the counter have lent what is to be lent.
use Rattle.std.proofs.Common.{◌≡◌, ◌++◌, take}
use Rattle.replay_rounds.specs.Slots.{in_keg, left_of, lent_items, marks_of}
use Rattle.replay_rounds.proofs.Loops.{written}
use Rattle.replay_rounds.proofs.census.lend.Given as goal

abbrev pub invariant-loop-slot : goal.invariant-loop-slot
invariant-loop-slot l = record {
  left : l.slots ≡ written (left_of (in_keg l.head.zones l.place)) l.slot l.initial.slots;
  marks : l.marks.items ≡ marks_of (in_keg l.head.zones l.place) (take l.slot l.initial.slots);
  lives : l.lives.items ≡ l.initial.lives.items ++ lent_items (in_keg l.head.zones l.place) (take l.slot l.initial.slots);
}
