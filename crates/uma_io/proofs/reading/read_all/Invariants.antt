-- What was read so far was the front of the bytes left; each turn that goes on reads at least one byte.
use Rattle.std.proofs.Common.{◌≤◌, ◌-◌, vec_len}
use Rattle.uma_io.specs.Source.{TakesBytes}
use Rattle.uma_io.proofs.reading.read_all.Given as goal

abbrev pub invariant-loop-bytes : goal.invariant-loop-bytes
invariant-loop-bytes g l = record {
  within : vec_len l.bytes ≤ l.most;
  taken : TakesBytes (g.S.Source.bytes_left l.initial.source) l.bytes.items (g.S.Source.bytes_left l.source);
  never_fell : g.S.Source.fault_count l.initial.source ≤ g.S.Source.fault_count l.source;
}

abbrev pub decreases-loop-bytes : goal.decreases-loop-bytes
decreases-loop-bytes g l = l.most - vec_len l.bytes
