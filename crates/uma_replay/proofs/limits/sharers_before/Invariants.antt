-- The sharers among the first zones are counted.
use Rattle.std.specs.Prelude.{◌≡◌, ◌≤◌, take}
use Rattle.trace_text.specs.Valid.{sharer_count}
use Rattle.uma_replay.proofs.limits.sharers_before.Given as goal

abbrev pub invariant-loop-i : goal.invariant-loop-i
invariant-loop-i l = (l.count ≡ sharer_count (take l.i l.heads) l.parent) × (l.count ≤ l.i)
