use Rattle.std.proofs.Common.{◌≡◌, All}
use Rattle.std.specs.VecDeque.{deque_len, deque_capacity}
use Rattle.smr_clock.specs.Belongs.{clock_id}
use Rattle.uma_bucket.specs.Sealed.{IsSealedAt}
use Rattle.uma_domain.proofs.Polled.{Scanned}
use Rattle.uma_domain.proofs.scans.take_first_ripe.Given as goal

abbrev pub invariant-loop-at : goal.invariant-loop-at
invariant-loop-at g l = record {
  here : All (IsSealedAt (clock_id l.clock)) l.sealed.items;
  as_many : deque_len l.sealed ≡ deque_len l.fn.sealed;
  capacity : deque_capacity l.sealed ≡ deque_capacity l.fn.sealed;
  scanned : Scanned l.fn.sealed.items l.at l.sealed.items;
}
