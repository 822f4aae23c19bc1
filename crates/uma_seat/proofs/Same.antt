-- Two seats with the same parts are one seat: what their types know of the parts has at most one proof.
use Rattle.std.proofs.Common.{◌≡◌, ◌≤◌, cond, length}
use Rattle.std.proofs.Props.{props}
use Rattle.std.specs.List.{All}
use std.HLevel.{prop→path_p}
use Rattle.uma_seat.specs.declared.seat.SeatCache.{SeatCache}
use Rattle.uma_seat.specs.Rack.{shelf_in}
use Rattle.uma_seat.specs.Row.{row_len, freed_len, IsRowAt, IsFreedRowAt}
use Rattle.uma_seat.specs.Seating.{home_of, clock_of}
use Rattle.uma_bucket.specs.Shelved.{IsShelvedAt, IsShelvedOf}

pub seat_same : {T H P : Type 0} {g h : _} (a b : SeatCache T H P g h) → a.seating ≡ b.seating → a.size ≡ b.size → a.top ≡ b.top → a.plain ≡ b.plain → a.freed ≡ b.freed → a.rack ≡ b.rack → a.counts ≡ b.counts → a.misses ≡ b.misses → a.ports ≡ b.ports → a ≡ b
seat_same a b seating size top plain freed rack counts misses ports = λ i. record {
  seating = seating i;
  size = size i;
  top = top i;
  plain = plain i;
  freed = freed i;
  rack = rack i;
  counts = counts i;
  misses = misses i;
  ports = ports i;
  one_port_each = prop→path_p (λ j. length (ports j).items ≡ (seating j).domains) (Prim.hlevel props) a.one_port_each b.one_port_each i;
  least = prop→path_p (λ j. 4 ≤ size j) (Prim.hlevel props) a.least b.least i;
  most = prop→path_p (λ j. size j ≤ 64) (Prim.hlevel props) a.most b.most i;
  plain_buckets = prop→path_p (λ j. row_len (plain j) ≡ cond (seating j).smr 0 (seating j).domains) (Prim.hlevel props) a.plain_buckets b.plain_buckets i;
  freed_buckets = prop→path_p (λ j. freed_len (freed j) ≡ cond (seating j).smr (seating j).domains 0) (Prim.hlevel props) a.freed_buckets b.freed_buckets i;
  plain_home = prop→path_p (λ j. IsRowAt (home_of (seating j)) (plain j)) (Prim.hlevel props) a.plain_home b.plain_home i;
  freed_home = prop→path_p (λ j. IsFreedRowAt (home_of (seating j)) (freed j)) (Prim.hlevel props) a.freed_home b.freed_home i;
  shelf_home = prop→path_p (λ j. All (IsShelvedAt (home_of (seating j))) (shelf_in (rack j))) (Prim.hlevel props) a.shelf_home b.shelf_home i;
  shelf_clock = prop→path_p (λ j. All (IsShelvedOf (clock_of (seating j))) (shelf_in (rack j))) (Prim.hlevel props) a.shelf_clock b.shelf_clock i;
}
