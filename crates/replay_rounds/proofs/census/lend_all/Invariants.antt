-- The workers below the counter have lent what is to be lent.
use Rattle.std.proofs.Common.{◌≡◌, take}
use Rattle.replay_rounds.specs.Slots.{all_lent, all_marks, in_keg, lender}
use Rattle.replay_rounds.proofs.Loops.{written}
use Rattle.replay_rounds.proofs.census.lend_all.Given as goal

abbrev pub invariant-loop-number : goal.invariant-loop-number
invariant-loop-number g l = record {
  left : l.workers ≡ written (lender (in_keg l.head.zones l.place)) l.number l.initial.workers;
  marks : l.marks.items ≡ all_marks (in_keg l.head.zones l.place) (take l.number l.initial.workers);
  lives : l.lives.items ≡ all_lent (in_keg l.head.zones l.place) (take l.number l.initial.workers);
}
