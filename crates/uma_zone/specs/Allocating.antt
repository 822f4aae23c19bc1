-- Own: what the steps of a request hand out, and what they leave of its seat and its pass.
use Rattle.std.specs.Prelude.{◌≡◌, ◌≢◌, ◌≤◌, ◌<◌, ℕ, Bool, [], length, Result, Err}
use Rattle.smr_clock.specs.declared.clock.Clock.{Clock}
use Rattle.smr_clock.specs.declared.pass.Pass.{Pass}
use Rattle.smr_clock.specs.declared.view.View.{View}
use Rattle.smr_clock.specs.Belongs.{view}
use Rattle.zone_stats.specs.LedgerSteps.{CountsAlloc}
use Rattle.uma_life.specs.declared.states.Cached.{Cached}
use Rattle.uma_life.specs.declared.states.Live.{Live}
use Rattle.uma_life.specs.Cached.{cached_ticket}
use Rattle.uma_life.specs.Live.{live_ticket}
use Rattle.uma_bucket.specs.Home.{IsHome}
use Rattle.uma_seat.specs.declared.seat.SeatCache.{SeatCache}
use Rattle.uma_seat.specs.Seat.{seat_domain, top_of, usable_of, spares_of, shelf_of, ledger_of, fetches_of, plain_of, plain_ready, IsSameSeat, KeepsPlain, KeepsFreed, KeepsRack, KeepsMisses, KeepsPorts}
use Rattle.locked_keg.specs.Seating.{KeepsAllButTop}
use Rattle.uma_zone.specs.declared.zone.alloc.AllocAsk.{AllocAsk}
use Rattle.uma_zone.specs.declared.zone.alloc.AllocRefused.{AllocRefused}
use Rattle.uma_zone.specs.declared.zone.alloc.AllocRefused.TheVariants.{Memory}
use Rattle.uma_zone.specs.declared.zone.Zone.{Zone}
use Rattle.uma_zone.specs.Alloc.{Serves, TakesUsable, IsBuilt}
use Rattle.uma_zone.specs.Flushed.{HasLastOf}
use Rattle.uma_zone.specs.Frames.{GoesOn}
use Rattle.uma_zone.specs.OwnDomain.{IsFlushed, IsSettled}
use Rattle.uma_zone.specs.Ports.{sent_of}
use Rattle.uma_zone.specs.Told.{TakesInNote}
use Rattle.uma_zone.specs.Zone.{zone_home, IsSeatOf}

module _ {T K H P : Type 0} {g k h : _} where
  -- ---- what comes of a request

  -- the item is at home in the zone, and was taken and built in this request, which is counted
  pub record ServesAtHome (zone : Zone T K H P g k h) (ask : AllocAsk) (old new : SeatCache T H P g h) (live : Live T g) : Type 0 where
    pub home : IsHome (zone_home zone) (live_ticket live)
    pub serves : Serves zone ask old live new

  -- The item is at home in the zone, and was taken so. Nothing is counted yet, and the allocation bucket has room for it again.
  pub record TakesAtHome (zone : Zone T K H P g k h) (reserve : Bool) (old new : SeatCache T H P g h) (item : Cached T g) : Type 0 where
    pub home : IsHome (zone_home zone) (cached_ticket item)
    pub takes : TakesUsable zone reserve old item (usable_of new) new
    pub ledger : ledger_of new ≡ ledger_of old
    pub top_room : length (top_of new).items < (top_of new).room

  -- The item that was taken is built, at home in the zone still. The request is counted, and what is usable stays.
  pub record BuildsAtHome (zone : Zone T K H P g k h) (arg : ℕ) (item : Cached T g) (old new : SeatCache T H P g h) (live : Live T g) : Type 0 where
    pub home : IsHome (zone_home zone) (live_ticket live)
    pub built : IsBuilt zone arg item live
    pub counted : CountsAlloc (ledger_of old) (ledger_of new)
    pub usable : usable_of new ≡ usable_of old

  -- ---- what a request does to lists

  -- Where no item was usable the seat was flushed, by a pass whose view was v before and v' after, and its own domain settled unless memory was wanting. Where one was, its shelf, its ports and the pass are as they were.
  pub record FlushesIfEmpty {A : Type 0} (zone : Zone T K H P g k h) (copied : P → P) (v : View P) (old : SeatCache T H P g h) (end : Result A AllocRefused) (new : SeatCache T H P g h) (v' : View P) : Type 0 where
    pub flushed : usable_of old ≡ [] → IsFlushed zone.domains (seat_domain old) copied (shelf_of old) (shelf_of new) (sent_of old) (sent_of new) v
    pub settled : usable_of old ≡ [] → (end ≡ Err Memory → ⊥) → IsSettled zone.domains (seat_domain old) copied
    pub unflushed : usable_of old ≢ [] → KeepsRack old new
    pub unpushed : usable_of old ≢ [] → KeepsPorts old new
    pub unseen : usable_of old ≢ [] → v' ≡ v

  -- the seat was flushed so, and its own domain settled unless memory was wanting
  pub record FlushesToFill {A : Type 0} (zone : Zone T K H P g k h) (copied : P → P) (v : View P) (old : SeatCache T H P g h) (end : Result A AllocRefused) (new : SeatCache T H P g h) : Type 0 where
    pub shelf : HasLastOf (shelf_of old) (shelf_of new)
    pub flushed : IsFlushed zone.domains (seat_domain old) copied (shelf_of old) (shelf_of new) (sent_of old) (sent_of new) v
    pub settled : (end ≡ Err Memory → ⊥) → IsSettled zone.domains (seat_domain old) copied

  -- ---- what is left as it was

  -- A request leaves the seat one of its zone, with its spare buckets, the last of its shelf and its deferred items, and the pass goes on. The plain buckets are as `try_alloc` makes them ready.
  pub record KeepsInRequest (zone : Zone T K H P g k h) (merged : P → P → P) (by : Clock H P) (p p' : Pass H P h) (old new : SeatCache T H P g h) : Type 0 where
    pub seat : IsSeatOf zone new
    pub pass : GoesOn by p p'
    pub host : TakesInNote merged (view p).host (view p').host
    pub spare : length (spares_of old) ≤ length (spares_of new)
    pub shelf : HasLastOf (shelf_of old) (shelf_of new)
    pub plain : plain_of new ≡ plain_ready old
    pub freed : KeepsFreed old new
    pub same : IsSameSeat old new

  -- a fill leaves the plain buckets too
  pub record KeepsInFill (zone : Zone T K H P g k h) (merged : P → P → P) (by : Clock H P) (p p' : Pass H P h) (old new : SeatCache T H P g h) : Type 0 where
    pub seat : IsSeatOf zone new
    pub pass : GoesOn by p p'
    pub host : TakesInNote merged (view p).host (view p').host
    pub spare : length (spares_of old) ≤ length (spares_of new)
    pub plain : KeepsPlain old new
    pub freed : KeepsFreed old new
    pub same : IsSameSeat old new

  -- a fetch leaves the seat one of its zone, and all of it but its allocation bucket and its counts
  pub record KeepsInFetch (zone : Zone T K H P g k h) (old new : SeatCache T H P g h) : Type 0 where
    pub seat : IsSeatOf zone new
    pub rest : KeepsAllButTop old new

  -- a build leaves the seat one of its zone, and all of it but the items of its allocation bucket and its ledger
  pub record KeepsInBuild (zone : Zone T K H P g k h) (old new : SeatCache T H P g h) : Type 0 where
    pub seat : IsSeatOf zone new
    pub kept_room : (top_of new).room ≡ (top_of old).room
    pub fetches : fetches_of new ≡ fetches_of old
    pub misses : KeepsMisses old new
    pub ports : KeepsPorts old new
    pub plain : KeepsPlain old new
    pub freed : KeepsFreed old new
    pub rack : KeepsRack old new
    pub same : IsSameSeat old new
