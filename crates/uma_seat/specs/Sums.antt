-- Own: what the sums of a seat come to.
use Rattle.std.specs.Prelude.{ℕ, ◌+◌, length}
use Rattle.std.specs.List.{sum_by}
use Rattle.uma_life.specs.Hook.{Hook}
use Rattle.uma_bucket.specs.Bucket.{items_of}
use Rattle.uma_bucket.specs.Loose.{loose_items}
use Rattle.uma_bucket.specs.declared.shelved.Sums.{Sums}
use Rattle.uma_bucket.specs.Home.{AreHome}
use Rattle.uma_bucket.specs.Sums.{nothing_held, times_cached, times_freed, Adds, AreOfAtMost, Balance}
use Rattle.uma_seat.specs.Seat.{seat_home, top_tickets}
use Rattle.uma_seat.specs.ShelfSums.{times_shelved, deferred_shelved}
use Rattle.uma_seat.specs.declared.rows.PlainRow.{PlainRow}
use Rattle.uma_seat.specs.declared.rows.FreedRow.{FreedRow}
use Rattle.uma_seat.specs.declared.rack.Rack.{Rack}
use Rattle.uma_seat.specs.declared.seat.SeatCache.{SeatCache}

module _ {T H P : Type 0} {g h : _} where
  abbrev pub times_in_rack : Hook → Rack T H P g h → ℕ
  times_in_rack hook rack = sum_by (times_shelved hook) rack.shelf.items

  abbrev pub deferred_in_rack : Rack T H P g h → ℕ
  deferred_in_rack rack = sum_by deferred_shelved rack.shelf.items

module _ {T : Type 0} {g : _} where
  abbrev pub times_in_row : Hook → PlainRow T g → ℕ
  times_in_row hook row = sum_by (λ bucket. times_cached hook (items_of bucket)) row.buckets.items

  abbrev pub times_in_freed : Hook → FreedRow T g → ℕ
  times_in_freed hook row = sum_by (λ loose. times_freed hook (loose_items loose)) row.buckets.items

  abbrev pub deferred_in_freed : FreedRow T g → ℕ
  deferred_in_freed row = sum_by (λ loose. length (loose_items loose)) row.buckets.items

module _ {T H P : Type 0} {g h : _} where
  -- how often the items of the seat passed a hook
  abbrev pub times_in_seat : Hook → SeatCache T H P g h → ℕ
  times_in_seat hook seat = times_cached hook (items_of seat.top) + times_in_row hook seat.plain + times_in_freed hook seat.freed + times_in_rack hook seat.rack

  -- how many of them are deferred
  abbrev pub deferred_in_seat : SeatCache T H P g h → ℕ
  deferred_in_seat seat = deferred_in_freed seat.freed + deferred_in_rack seat.rack

  -- these are the sums of the seat
  pub record SumsUp (seat : SeatCache T H P g h) (sums : Sums) : Type 0 where
    pub adds : Adds (λ hook. times_in_seat hook seat) (deferred_in_seat seat) nothing_held sums
    pub few : AreOfAtMost 704 sums
    pub balance : AreHome (seat_home seat) (top_tickets seat) → Balance (seat_home seat).zone sums
