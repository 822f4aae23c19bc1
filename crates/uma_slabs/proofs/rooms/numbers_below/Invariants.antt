use Rattle.std.proofs.Common.{◌≡◌, ◌-◌, ◌++◌, true, false, replicate}
use Rattle.uma_slabs.proofs.rooms.numbers_below.Given as goal

abbrev pub invariant-loop-no : goal.invariant-loop-no
invariant-loop-no l = l.numbers ≡ replicate l.no true ++ replicate (1024 - l.no) false
