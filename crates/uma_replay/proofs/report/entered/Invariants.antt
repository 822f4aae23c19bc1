-- The first workers are summed up.
use Rattle.std.specs.Prelude.{◌≡◌, take}
use Rattle.std.specs.List.{sum_by}
use Rattle.replay_worker.specs.declared.worker.Worker.{Worker}
use Rattle.uma_replay.proofs.report.entered.Given as goal

abbrev pub invariant-loop-number : goal.invariant-loop-number
invariant-loop-number g l = l.total ≡ sum_by (λ (w : Worker _ _ _). w.entered) (take l.number l.workers)
