-- Padding comes to the same, and the slots so far are as many as the counter says.
use Rattle.std.proofs.Common.{◌≡◌, length, map}
use Rattle.replay_worker.specs.Boxed.{unboxed}
use Rattle.replay_worker.specs.Slots.{padded}
use Rattle.replay_worker.proofs.slots.Slots.grow.Given as goal

abbrev pub invariant-loop : goal.invariant-loop
invariant-loop l =
    record {
      long : length l.self-inside.held.items ≡ l.counter;
      same : padded (map unboxed l.self-inside.held.items) l.count ≡ padded l.fn.self l.count;
    }
