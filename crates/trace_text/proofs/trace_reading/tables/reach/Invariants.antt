use Rattle.std.proofs.Common.{◌≡◌, ℕ, ◌-◌, false, get_or, vec_len}
use Rattle.trace_text.proofs.trace_reading.tables.reach.Given as goal

-- each place says what it said
abbrev pub invariant-loop-table : goal.invariant-loop-table
invariant-loop-table l = record {
  same : (i : ℕ) → get_or l.table.items i false ≡ get_or l.initial.table.items i false;
}

abbrev pub decreases-loop-table : goal.decreases-loop-table
decreases-loop-table l = l.end - vec_len l.table
