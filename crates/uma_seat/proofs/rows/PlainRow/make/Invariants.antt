use Rattle.std.proofs.Common.{◌≡◌, ◌≤◌, vec_len}
use Rattle.std.specs.List.{All}
use Rattle.std.specs.Vec.{vec_capacity}
use Rattle.uma_seat.specs.Stack.{stack_of, empty_stack}
use Rattle.uma_seat.proofs.rows.PlainRow.make.Given as goal

abbrev pub invariant-loop : goal.invariant-loop
invariant-loop g l = record {
  long : vec_len l.buckets ≡ l.counter;
  room : l.fn.count ≤ vec_capacity l.buckets;
  empty : All (λ bucket. stack_of bucket ≡ empty_stack l.fn.size) l.buckets.items;
}
