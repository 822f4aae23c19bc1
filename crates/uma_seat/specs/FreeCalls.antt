-- Own: what a free of an item needs of a seat, and what it makes of it.
use Rattle.std.specs.Prelude.{◌≡◌, ◌<◌, ℕ, Bool, true, false, not, ◌==◌, length, slice_set}
use Rattle.smr_clock.specs.declared.clock.Clock.{Clock}
use Rattle.smr_clock.specs.declared.pass.Pass.{Pass}
use Rattle.smr_clock.specs.Belongs.{IsPassOf, clock_id, view}
use Rattle.zone_stats.specs.LedgerSteps.{HasRoom, CountsFree}
use Rattle.uma_life.specs.declared.states.Cached.{Cached}
use Rattle.uma_life.specs.declared.states.Live.{Live}
use Rattle.uma_life.specs.Cached.{cached_ticket, cached_domain}
use Rattle.uma_life.specs.Live.{live_ticket, live_domain}
use Rattle.uma_bucket.specs.declared.freed.Freed.{Freed}
use Rattle.uma_bucket.specs.declared.freed.Loose.{Loose}
use Rattle.uma_bucket.specs.declared.shelved.Shelved.{Shelved}
use Rattle.uma_bucket.specs.Freed.{freed_item, freed_ticket}
use Rattle.uma_bucket.specs.Home.{IsHome}
use Rattle.uma_bucket.specs.Loose.{loose_items, loose_tickets}
use Rattle.uma_bucket.specs.Shelved.{count_of, shelved_domain, shelved_tickets, IsShelvedOf}
use Rattle.uma_seat.specs.declared.seat.SeatCache.{SeatCache}
use Rattle.uma_seat.specs.Stack.{stack_at, with_item, is_filled_by_one}
use Rattle.uma_seat.specs.Seat.{seat_home, seat_clock, seat_smr, seat_domain, plain_of, freed_of, spares_of, ledger_of, fetches_of, seat_fails, IsSameSeat, KeepsTop, KeepsPlain, KeepsFreed, KeepsRack, KeepsMisses, KeepsPorts}
use Rattle.uma_seat.specs.Frames.{KeepsPass}
use Rattle.uma_seat.specs.Freeing.{ShelvesPlain, IsTried, ShelvesFreed}

module _ {T H P : Type 0} {g h : _} where
  -- ---- in a plain zone

  -- It is one, a spare stands by, there is room for one free more in the counts, and the item is at home there.
  pub record CanFree (old : SeatCache T H P g h) (item : Cached T g) : Type 0 where
    pub plain : seat_smr old ≡ false
    pub spare : 0 < length (spares_of old)
    pub room : HasRoom (ledger_of old)
    pub home : IsHome (seat_home old) (cached_ticket item)

  -- The item is on top of the bucket of its domain. Where that is full then, it is the newest on the shelf, and a spare stands in its place.
  pub record Frees (old : SeatCache T H P g h) (item : Cached T g) (new : SeatCache T H P g h) : Type 0 where
    pub put : is_filled_by_one (stack_at (plain_of old) (cached_domain item)) ≡ false → plain_of new ≡ slice_set (plain_of old) (cached_domain item) (with_item (stack_at (plain_of old) (cached_domain item)) item)
    pub rack : is_filled_by_one (stack_at (plain_of old) (cached_domain item)) ≡ false → KeepsRack old new
    pub full : is_filled_by_one (stack_at (plain_of old) (cached_domain item)) ≡ true → ShelvesPlain old (cached_domain item) (with_item (stack_at (plain_of old) (cached_domain item)) item) new
    pub ledger : CountsFree (ledger_of old) (ledger_of new) (not (cached_domain item == seat_domain old))
    pub fetches : fetches_of new ≡ fetches_of old
    pub fails : seat_fails new ≡ seat_fails old
    pub same : IsSameSeat old new
    pub ports : KeepsPorts old new
    pub top : KeepsTop old new
    pub freed : KeepsFreed old new
    pub misses : KeepsMisses old new

  -- the item is of this domain and at home there, and one item more fills its bucket, or doesn't
  pub record CanPut (filled : Bool) (old : SeatCache T H P g h) (domain : ℕ) (item : Cached T g) : Type 0 where
    pub plain : seat_smr old ≡ false
    pub home : IsHome (seat_home old) (cached_ticket item)
    pub own : domain ≡ cached_domain item
    pub room : is_filled_by_one (stack_at (plain_of old) domain) ≡ filled

  -- it fills its bucket, and a spare stands by
  pub record CanShelve (old : SeatCache T H P g h) (domain : ℕ) (item : Cached T g) : Type 0 where
    pub put : CanPut true old domain item
    pub spare : 0 < length (spares_of old)

  -- ---- in an SMR zone, by a pass of its clock

  -- so too, for a live item
  pub record CanFreeSmr (by : Clock H P) (pass : Pass H P h) (old : SeatCache T H P g h) (item : Live T g) : Type 0 where
    pub smr : seat_smr old ≡ true
    pub spare : 0 < length (spares_of old)
    pub room : HasRoom (ledger_of old)
    pub home : IsHome (seat_home old) (live_ticket item)
    pub clock : clock_id by ≡ seat_clock old
    pub here : IsPassOf by pass

  -- The item is on top of the bucket of its domain. Where that is full then, it was tried once to be sealed and is the newest on the shelf, and a spare stands in its place.
  pub record FreesSmr (copied : P → P) (by : Clock H P) (before : Pass H P h) (old : SeatCache T H P g h) (item : Live T g) (after : Pass H P h) (new : SeatCache T H P g h) : Type 0 where
    pub pass : KeepsPass by before after
    pub put : is_filled_by_one (stack_at (freed_of old) (live_domain item)) ≡ false → freed_of new ≡ slice_set (freed_of old) (live_domain item) (with_item (stack_at (freed_of old) (live_domain item)) item)
    pub rack : is_filled_by_one (stack_at (freed_of old) (live_domain item)) ≡ false → KeepsRack old new
    pub unseen : is_filled_by_one (stack_at (freed_of old) (live_domain item)) ≡ false → view after ≡ view before
    pub full : is_filled_by_one (stack_at (freed_of old) (live_domain item)) ≡ true → ShelvesFreed copied (view before) old (live_domain item) (with_item (stack_at (freed_of old) (live_domain item)) item) new (view after)
    pub ledger : CountsFree (ledger_of old) (ledger_of new) (not (live_domain item == seat_domain old))
    pub fetches : fetches_of new ≡ fetches_of old
    pub fails : seat_fails new ≡ seat_fails old
    pub same : IsSameSeat old new
    pub ports : KeepsPorts old new
    pub top : KeepsTop old new
    pub plain : KeepsPlain old new
    pub misses : KeepsMisses old new

  -- the freed item is of this domain and at home there, and one item more fills its bucket, or doesn't
  pub record CanDefer (filled : Bool) (old : SeatCache T H P g h) (domain : ℕ) (item : Freed T g) : Type 0 where
    pub smr : seat_smr old ≡ true
    pub home : IsHome (seat_home old) (freed_ticket item)
    pub own : domain ≡ live_domain (freed_item item)
    pub room : is_filled_by_one (stack_at (freed_of old) domain) ≡ filled

  -- it fills its bucket, and a spare stands by
  pub record CanSeal (by : Clock H P) (pass : Pass H P h) (old : SeatCache T H P g h) (domain : ℕ) (item : Freed T g) : Type 0 where
    pub put : CanDefer true old domain item
    pub spare : 0 < length (spares_of old)
    pub clock : clock_id by ≡ seat_clock old
    pub here : IsPassOf by pass

  -- The bucket goes to this domain, with the same items, after one try to seal it.
  pub record TriesToSeal (copied : P → P) (by : Clock H P) (before : Pass H P h) (to : ℕ) (loose : Loose T g) (result : Shelved T H P g h) (after : Pass H P h) : Type 0 where
    pub pass : KeepsPass by before after
    pub tried : IsTried copied (view before) to loose result (view after)
    pub domain : shelved_domain result ≡ to
    pub count : count_of result ≡ length (loose_items loose)
    pub tickets : shelved_tickets result ≡ loose_tickets loose
    pub clock : IsShelvedOf (clock_id by) result
