-- So many of the worker's operations are done, the gate heard each of them, and one that holds nobody made it give up none.
use Rattle.std.proofs.Common.{◌≡◌}
use Rattle.std.specs.Prelude.{[]}
use Rattle.replay_worker.specs.Asking.{HearsEach, heard_by}
use Rattle.replay_worker.specs.OwnLines.{lines_before}
use Rattle.replay_worker.proofs.Midway.{Midway}
use Rattle.replay_worker.proofs.worker_run.WorkerRun.turn.Given as goal

abbrev pub invariant-loop-place : goal.invariant-loop-place
invariant-loop-place g l =
    record {
      midway : Midway g.N.NameCalls l.shared.cache.now l.shared.zones.now l.shared.clock.now l.number (lines_before l.shared.trace.now.rounds l.round) l.ops l.place l.fn.self l.self;
      of_gate : g.G.Gate.is_of l.shared.gate.now l.visit;
      hears : HearsEach l.number (heard_by [] l.fn.self) l.place (heard_by (g.G.Gate.heard l.visit) l.self);
      free : g.G.Gate.is_free l.shared.gate.now → l.self.gave_up ≡ l.fn.self.gave_up;
    }
