use Rattle.std.proofs.Common.{◌≡◌}
use Rattle.smr_core.specs.CoreState.{first_workers}
use Rattle.smr_core.proofs.steps.opening_actors.Given as goal

abbrev pub invariant-loop-seat : goal.invariant-loop-seat
invariant-loop-seat l = l.actors.items ≡ first_workers l.config l.seat
