use Rattle.std.proofs.Common.{◌≡◌, ◌≤◌, vec_len}
use Rattle.std.specs.List.{All}
use Rattle.std.specs.Vec.{vec_capacity}
use Rattle.uma_seat.specs.Stack.{loose_stack, empty_stack}
use Rattle.uma_seat.proofs.rows.FreedRow.make.Given as goal

abbrev pub invariant-loop : goal.invariant-loop
invariant-loop g l = record {
  long : vec_len l.buckets ≡ l.counter;
  room : l.fn.count ≤ vec_capacity l.buckets;
  empty : All (λ loose. loose_stack loose ≡ empty_stack l.fn.size) l.buckets.items;
}
