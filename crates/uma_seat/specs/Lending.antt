-- Own: what a seat ends as, where a part of it was lent.
use Rattle.std.specs.Prelude.{ℕ}
use Rattle.std.specs.Borrow.{Lends, Fml, RattleType, MutBor}
use Rattle.std.specs.Vec.{with_item}
use Rattle.std.proofs.Common.{◌∙◌, length-set}
use Rattle.inbox.specs.declared.inbox.Port.{Port}
use Rattle.inbox.specs.contracts.inbox.Port as port
use Rattle.deed_book.specs.declared.fail_book.FailShare.{FailShare}
use Rattle.deed_book.specs.contracts.fail_book.FailShare as share
use Rattle.uma_bucket.specs.declared.bucket.Bucket.{Bucket}
use Rattle.uma_bucket.specs.contracts.bucket.Bucket as bucket
use Rattle.uma_bucket.specs.declared.shelved.InboxKey.{InboxKey}
use Rattle.uma_bucket.specs.contracts.shelved.InboxKey as key
use Rattle.uma_bucket.specs.declared.shelved.Shelved.{Shelved}
use Rattle.uma_bucket.specs.contracts.shelved.Shelved as shelved
use Rattle.uma_seat.specs.declared.seat.SeatCache.{SeatCache}
use Rattle.uma_seat.specs.contracts.seat.SeatCache.{the_row}

-- the seat with this allocation bucket
abbrev pub with_top : {T H P : Type 0} {g h : _} → SeatCache T H P g h → Bucket T g → SeatCache T H P g h
with_top seat top = record seat { top = top }

-- the seat with this share of its domain's book of misses
abbrev pub with_misses : {T H P : Type 0} {g h : _} → SeatCache T H P g h → FailShare → SeatCache T H P g h
with_misses seat misses = record seat { misses = misses }

-- the seat with this port of a domain
abbrev pub with_port : {T H P : Type 0} {g h : _} → SeatCache T H P g h → ℕ → Port (Shelved T H P g h) (InboxKey H P) → SeatCache T H P g h
with_port seat domain port = record {
  seating = seat.seating;
  size = seat.size;
  top = seat.top;
  plain = seat.plain;
  freed = seat.freed;
  rack = seat.rack;
  counts = seat.counts;
  misses = seat.misses;
  ports = with_item seat.ports domain port;
  least = seat.least;
  most = seat.most;
  plain_buckets = seat.plain_buckets;
  freed_buckets = seat.freed_buckets;
  one_port_each = length-set seat.ports.items domain port ∙ seat.one_port_each;
  plain_home = seat.plain_home;
  freed_home = seat.freed_home;
  shelf_home = seat.shelf_home;
  shelf_clock = seat.shelf_clock;
}

module _ (T H P : RattleType) (g : _) (h : _) where
  -- once the borrow ends the allocation bucket is the one that was left behind it, and nothing else changed
  abbrev pub LendsTop : MutBor (SeatCache T.Denot H.Denot P.Denot g h) → MutBor (Bucket T.Denot g) → Fml
  LendsTop seat result = Lends (the_row T H P g h) (bucket.the_row T g) seat result (with_top seat.now)

  -- once the borrow ends the share is the one that was left behind it, and nothing else changed
  abbrev pub LendsMisses : MutBor (SeatCache T.Denot H.Denot P.Denot g h) → MutBor FailShare → Fml
  LendsMisses seat result = Lends (the_row T H P g h) share.the_row seat result (with_misses seat.now)

  -- once the borrow ends the domain's port is the one that was left behind it, and nothing else changed
  abbrev pub LendsPort : MutBor (SeatCache T.Denot H.Denot P.Denot g h) → ℕ → MutBor (Port (Shelved T.Denot H.Denot P.Denot g h) (InboxKey H.Denot P.Denot)) → Fml
  LendsPort seat domain result = Lends (the_row T H P g h) (port.the_row (shelved.the_row T H P g h) (key.the_row H P h)) seat result (with_port seat.now domain)
