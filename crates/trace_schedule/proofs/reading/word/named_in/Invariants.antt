use Rattle.std.proofs.Common.{◌≡◌, length, map}
use Rattle.trace_schedule.specs.Words.{named_in}
use Rattle.trace_schedule.proofs.reading.word.named_in.Given as goal

abbrev pub invariant-loop-table : goal.invariant-loop-table
invariant-loop-table g l = named_in (map (λ row. (row.0.now, row.1)) l.table) l.field ≡ named_in (map (λ row. (row.0.now, row.1)) l.initial.table) l.field

abbrev pub decreases-loop-table : goal.decreases-loop-table
decreases-loop-table g l = length l.table
