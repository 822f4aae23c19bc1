use Rattle.std.proofs.Common.{◌≡◌, ◌+◌, length, All}
use Rattle.uma_zcache.specs.Held.{held_book}
use Rattle.uma_zcache.specs.Locked.{book_in, IsSound, IsSameCache}
use Rattle.uma_zcache.specs.Stack.{stack_items, stack_size}
use Rattle.uma_zcache.proofs.Rounds.{ReleasesLast}
use Rattle.uma_zcache.proofs.locked.LockedCache.release_all.Given as goal

abbrev pub invariant-loop : goal.invariant-loop
invariant-loop g l = record {
  as_many : l.counter + length (stack_items l.stack) ≡ length (stack_items l.fn.stack);
  releases : ReleasesLast l.fn.self (stack_items l.fn.stack) (stack_items l.stack) l.self;
  books : All (λ held. held_book held ≡ book_in l.fn.self) (stack_items l.stack);
  size : stack_size l.stack ≡ stack_size l.fn.stack;
  sound : IsSound l.self;
  same : IsSameCache l.fn.self l.self;
}
