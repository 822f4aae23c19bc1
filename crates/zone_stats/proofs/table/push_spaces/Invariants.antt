use Rattle.std.proofs.Common.{◌≡◌, ◌++◌, replicate}
use Rattle.zone_stats.proofs.table.push_spaces.Given as goal

-- so many spaces were appended as the loop ran
abbrev pub invariant-loop : goal.invariant-loop
invariant-loop l = l.text.items ≡ l.initial.text.items ++ replicate l.counter 32
