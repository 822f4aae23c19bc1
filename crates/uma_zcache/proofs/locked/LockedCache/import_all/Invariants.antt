use Rattle.std.proofs.Common.{◌≡◌, length, All}
use Rattle.uma_zcache.specs.Held.{held_book}
use Rattle.uma_zcache.specs.Imports.{HasEntry, ImportsAll}
use Rattle.uma_zcache.specs.Locked.{book_in, IsSound, IsSameCache, CountsNothing}
use Rattle.uma_zcache.specs.Stack.{stack_items, stack_size}
use Rattle.uma_zcache.proofs.locked.LockedCache.import_all.Given as goal

abbrev pub invariant-loop : goal.invariant-loop
invariant-loop g l = record {
  imports : ImportsAll l.fn.self (stack_items l.stack) l.self;
  as_many : length (stack_items l.stack) ≡ l.counter;
  entries : All (HasEntry l.self) (stack_items l.stack);
  books : All (λ held. held_book held ≡ book_in l.fn.self) (stack_items l.stack);
  size : stack_size l.stack ≡ stack_size l.fn.stack;
  sound : IsSound l.self;
  same : IsSameCache l.fn.self l.self;
  nothing : CountsNothing l.fn.self l.self;
}
