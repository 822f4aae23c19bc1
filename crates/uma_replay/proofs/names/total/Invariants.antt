-- The first workers are summed up.
use Rattle.std.specs.Prelude.{◌≡◌, take}
use Rattle.uma_replay.specs.Names.{total_of}
use Rattle.uma_replay.proofs.names.total.Given as goal

abbrev pub invariant-loop-number : goal.invariant-loop-number
invariant-loop-number g l = l.total ≡ total_of l.count (take l.number l.name_works)
