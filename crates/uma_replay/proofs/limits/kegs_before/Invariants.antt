-- The kegs of the first zones are counted.
use Rattle.std.specs.Prelude.{◌≡◌, ◌≤◌}
use Rattle.uma_replay.specs.Reporting.{keg_number}
use Rattle.uma_replay.proofs.limits.kegs_before.Given as goal

abbrev pub invariant-loop-i : goal.invariant-loop-i
invariant-loop-i l = (l.count ≡ keg_number l.heads l.i) × (l.count ≤ l.i)
