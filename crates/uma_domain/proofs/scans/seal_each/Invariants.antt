use Rattle.std.proofs.Common.{◌≡◌, ◌≤◌, ◌+◌}
use Rattle.std.specs.VecDeque.{deque_len, deque_capacity}
use Rattle.smr_clock.specs.Belongs.{IsPassOf, clock_id, view, holder}
use Rattle.uma_domain.proofs.Tried.{Trying}
use Rattle.uma_domain.proofs.scans.seal_each.Given as goal

abbrev pub invariant-loop : goal.invariant-loop
invariant-loop g l = record {
  here : IsPassOf l.clock l.pass;
  phase : (holder l.pass).phase ≡ (holder l.fn.pass).phase;
  seen : (holder l.fn.pass).seen ≤ (holder l.pass).seen;
  host : (view l.pass).host ≡ (view l.fn.pass).host;
  few : l.count ≤ l.counter;
  as_many : deque_len l.loose + l.count ≡ deque_len l.fn.loose;
  sealed : deque_len l.sealed ≡ deque_len l.fn.sealed + l.count;
  capacity : deque_capacity l.sealed ≡ deque_capacity l.fn.sealed;
  capacity_loose : deque_capacity l.loose ≡ deque_capacity l.fn.loose;
  trying : Trying g.H.Host.copied (clock_id l.clock) (view l.fn.pass) l.fn.loose.items l.fn.sealed.items l.counter l.count l.loose.items l.sealed.items (view l.pass);
}
