-- The workers below the counter have their items back.
use Rattle.std.proofs.Common.{◌≡◌, take, reverse}
use Rattle.replay_rounds.specs.Slots.{all_refilled, over}
use Rattle.replay_rounds.proofs.Loops.{remains}
use Rattle.replay_rounds.proofs.census.put_all_back.Given as goal

abbrev pub invariant-loop-number : goal.invariant-loop-number
invariant-loop-number g l = record {
  workers : l.workers ≡ all_refilled (take l.number l.marks) (reverse l.initial.lives.items) l.initial.workers;
  lives : reverse l.lives.items ≡ remains over (take l.number l.marks) (reverse l.initial.lives.items);
}
