use Rattle.std.proofs.Common.{◌≡◌, ◌+◌}
use Rattle.std.specs.VecDeque.{deque_len, deque_capacity}
use Rattle.uma_domain.proofs.Trimmed.{TrimmingPlain}
use Rattle.uma_domain.proofs.trims.trim_plain.Given as goal

abbrev pub invariant-loop : goal.invariant-loop
invariant-loop g l = record {
  as_many : deque_len l.plain + l.counter ≡ deque_len l.fn.plain;
  room : deque_len l.taken + deque_len l.plain ≡ deque_len l.fn.taken + deque_len l.fn.plain;
  capacity : deque_capacity l.taken ≡ deque_capacity l.fn.taken;
  trimming : TrimmingPlain l.floor l.fn.remain l.fn.plain.items l.fn.taken.items l.remain l.plain.items l.taken.items;
}
