use Rattle.std.proofs.Common.{◌≡◌, vec_len}
use Rattle.std.specs.Vec.{vec_ptr, vec_capacity}
use Rattle.uma_bucket.proofs.Rounds.{UpTo}
use Rattle.uma_bucket.proofs.freed.Loose.finish.Given as goal

abbrev pub invariant-loop-at : goal.invariant-loop-at
invariant-loop-at g l = record {
  up_to : UpTo (g.K.Hooks.leaves_dtor l.hooks) l.at l.initial.room.items l.room.items;
  as_many : vec_len l.room ≡ vec_len l.initial.room;
  capacity : vec_capacity l.room ≡ vec_capacity l.initial.room;
  place : vec_ptr l.room ≡ vec_ptr l.initial.room;
}
