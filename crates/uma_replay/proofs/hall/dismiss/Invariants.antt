-- The workers of the first turns are taken out and back, with what they have of the names and how often they gave up.
use Rattle.std.specs.Prelude.{◌≡◌}
use Rattle.replay_worker.specs.Together.{crew}
use Rattle.uma_replay.specs.Playing.{AllBack, gave_ups_of, name_works_of}
use Rattle.uma_replay.proofs.hall.dismiss.Given as goal

abbrev pub invariant-loop-worker_run : goal.invariant-loop-worker_run
invariant-loop-worker_run g l = record {
  workers : AllBack l.clock (crew l.yielded) l.workers.items;
  name_works : l.name_works.items ≡ name_works_of l.yielded;
  gave_ups : l.gave_ups.items ≡ gave_ups_of l.yielded;
}
