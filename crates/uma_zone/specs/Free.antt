-- Own: what a free does to its seat.
use Rattle.std.specs.Prelude.{◌≡◌, ◌==◌, true, false, not, slice_set}
use Rattle.smr_clock.specs.declared.view.View.{View}
use Rattle.zone_stats.specs.LedgerSteps.{CountsFree}
use Rattle.uma_life.specs.declared.states.Cached.{Cached}
use Rattle.uma_life.specs.declared.states.Live.{Live}
use Rattle.uma_life.specs.Cached.{cached_body, cached_ticket, cached_domain}
use Rattle.uma_life.specs.Live.{live_body, live_ticket, live_zone, live_domain}
use Rattle.uma_life.specs.Hook.{Dtor, after}
use Rattle.uma_seat.specs.declared.seat.SeatCache.{SeatCache}
use Rattle.uma_seat.specs.Freeing.{ShelvesPlain, ShelvesFreed}
use Rattle.uma_seat.specs.Stack.{stack_at, with_item, is_filled_by_one}
use Rattle.uma_seat.specs.Seat.{seat_domain, plain_of, freed_of, usable_of, ledger_of, fetches_of, IsSameSeat, KeepsTop, KeepsPlain, KeepsRack, KeepsMisses}
use Rattle.uma_zone.specs.declared.zone.Zone.{Zone}
use Rattle.uma_zone.specs.Zone.{zone_hooks, IsSeatOf}

module _ {T K H P : Type 0} {g k h : _} where
  -- The item passed `dtor`, and lies on top of the bucket of its domain. Where that is full so, it is the newest on the shelf, and a spare stands in its place.
  pub record Frees (zone : Zone T K H P g k h) (old : SeatCache T H P g h) (live : Live T g) (new : SeatCache T H P g h) : Type 0 where
    pub item : Cached T g
    pub ticket : cached_ticket item ≡ live_ticket live
    pub passed : g.life (cached_body item) ≡ after (Dtor (live_zone live)) (g.life (live_body live))
    pub left : k.leaves_dtor (zone_hooks zone) (live_body live) (live_zone live) (cached_body item)
    pub put : is_filled_by_one (stack_at (plain_of old) (cached_domain item)) ≡ false → plain_of new ≡ slice_set (plain_of old) (cached_domain item) (with_item (stack_at (plain_of old) (cached_domain item)) item)
    pub rack : is_filled_by_one (stack_at (plain_of old) (cached_domain item)) ≡ false → KeepsRack old new
    pub full : is_filled_by_one (stack_at (plain_of old) (cached_domain item)) ≡ true → ShelvesPlain old (cached_domain item) (with_item (stack_at (plain_of old) (cached_domain item)) item) new

  -- The seat is one of its zone still. It counts one free, a cross one where the item is of another domain, and no fetch and no miss; its allocation bucket stays.
  pub record CountsOneFree (zone : Zone T K H P g k h) (old : SeatCache T H P g h) (live : Live T g) (new : SeatCache T H P g h) : Type 0 where
    pub seat : IsSeatOf zone new
    pub ledger : CountsFree (ledger_of old) (ledger_of new) (not (live_domain live == seat_domain old))
    pub fetches : fetches_of new ≡ fetches_of old
    pub same : IsSameSeat old new
    pub top : KeepsTop old new
    pub misses : KeepsMisses old new

module _ {T H P : Type 0} {g h : _} where
  -- The item stays built, and is deferred: it lies on top of the seat's bucket of its domain. Where that is full so, it was tried to be sealed, by a pass whose view was v before and v' after, and is the newest on the shelf; else the pass did nothing. Nothing becomes usable.
  pub record Defers (copied : P → P) (v : View P) (old : SeatCache T H P g h) (live : Live T g) (new : SeatCache T H P g h) (v' : View P) : Type 0 where
    pub put : is_filled_by_one (stack_at (freed_of old) (live_domain live)) ≡ false → freed_of new ≡ slice_set (freed_of old) (live_domain live) (with_item (stack_at (freed_of old) (live_domain live)) live)
    pub rack : is_filled_by_one (stack_at (freed_of old) (live_domain live)) ≡ false → KeepsRack old new
    pub unseen : is_filled_by_one (stack_at (freed_of old) (live_domain live)) ≡ false → v' ≡ v
    pub full : is_filled_by_one (stack_at (freed_of old) (live_domain live)) ≡ true → ShelvesFreed copied v old (live_domain live) (with_item (stack_at (freed_of old) (live_domain live)) live) new v'
    pub usable : usable_of new ≡ usable_of old
    pub plain : KeepsPlain old new
