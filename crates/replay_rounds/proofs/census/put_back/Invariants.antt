-- The slots below the counter have their items back.
use Rattle.std.proofs.Common.{◌≡◌, take, reverse}
use Rattle.replay_rounds.specs.Slots.{over, refilled}
use Rattle.replay_rounds.proofs.census.put_back.Given as goal

abbrev pub invariant-loop-slot : goal.invariant-loop-slot
invariant-loop-slot l = record {
  slots : l.slots ≡ refilled (take l.slot l.marks) (reverse l.initial.lives.items) l.initial.slots;
  lives : reverse l.lives.items ≡ over (take l.slot l.marks) (reverse l.initial.lives.items);
}
