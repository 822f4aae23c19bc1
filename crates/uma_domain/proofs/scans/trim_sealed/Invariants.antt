use Rattle.std.proofs.Common.{◌≡◌, ◌≤◌, ◌+◌, ◌-◌, All}
use Rattle.std.specs.VecDeque.{deque_len, deque_capacity}
use Rattle.smr_clock.specs.Belongs.{clock_id}
use Rattle.uma_bucket.specs.Sealed.{IsSealedAt}
use Rattle.uma_domain.proofs.Trimmed.{Trimming}
use Rattle.uma_domain.proofs.scans.trim_sealed.Given as goal

abbrev pub invariant-loop-at : goal.invariant-loop-at
invariant-loop-at g l = record {
  here : All (IsSealedAt (clock_id l.clock)) l.sealed.items;
  within : l.at ≤ deque_len l.sealed;
  fewer : deque_len l.sealed ≤ deque_len l.fn.sealed;
  capacity : deque_capacity l.sealed ≡ deque_capacity l.fn.sealed;
  room : deque_len l.taken + deque_len l.sealed ≤ deque_capacity l.taken + l.at;
  trimming : Trimming l.floor l.fn.remain l.fn.sealed.items l.fn.taken.items l.at l.remain l.sealed.items l.taken.items;
}

abbrev pub decreases-loop-at : goal.decreases-loop-at
decreases-loop-at g l = deque_len l.sealed - l.at
