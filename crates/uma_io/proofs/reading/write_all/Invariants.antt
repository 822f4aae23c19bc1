-- What the sink took so far is a front of the bytes; each turn takes at least one byte.
use Rattle.std.proofs.Common.{ℕ, ◌≡◌, ◌≤◌, take, drop, length}
use Rattle.uma_io.specs.Sink.{Adds}
use Rattle.uma_io.proofs.reading.write_all.Given as goal

abbrev pub invariant-loop-rest : goal.invariant-loop-rest
invariant-loop-rest g l = record {
  written : (n : ℕ) × (n ≤ length l.bytes) × (l.rest ≡ drop n l.bytes)
      × Adds (g.K.Sink.bytes_held l.initial.sink) (take n l.bytes) (g.K.Sink.bytes_held l.sink);
  never_fell : g.K.Sink.fault_count l.initial.sink ≤ g.K.Sink.fault_count l.sink;
}

abbrev pub decreases-loop-rest : goal.decreases-loop-rest
decreases-loop-rest g l = length l.rest
