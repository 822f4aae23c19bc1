-- What one request, and one free, do with a worker's seat of a zone.
use Rattle.std.specs.Prelude.{◌≡◌, ◌≢◌, ◌≤◌, ◌<◌, ◌==◌, ◌/◌, ◌⊎◌, ℕ, true, false, not, [], length, min, Option, Some, None, slice_set}
use Rattle.smr_clock.specs.declared.host.Host.{Ghosts}
use Rattle.smr_clock.specs.declared.view.View.{View}
use Rattle.uma_bucket.specs.Home.{IsHome}
use Rattle.uma_life.specs.Live.{live_ticket, live_domain}
use Rattle.uma_keg.specs.declared.fetch.FetchRefused.TheVariants.{Refused as RefusedFetch}
use Rattle.uma_seat.specs.Freeing.{ShelvesFreed}
use Rattle.uma_seat.specs.Seat.{seat_domain, usable_of, spares_of, shelf_of, plain_of, plain_ready, freed_of, ledger_of, fetches_of, IsSameSeat, KeepsTop, KeepsPlain, KeepsFreed, KeepsRack, KeepsCounts, KeepsMisses, KeepsPorts}
use Rattle.uma_seat.specs.Stack.{stack_at, with_item, is_filled_by_one}
use Rattle.uma_zone.specs.declared.zone.alloc.AllocAsk.{AllocAsk}
use Rattle.uma_zone.specs.declared.zone.alloc.AllocRefused.TheVariants.{Refused}
use Rattle.uma_zone.specs.Alloc.{Serves, AllocIsRefused}
use Rattle.uma_zone.specs.Flushed.{HasLastOf}
use Rattle.uma_zone.specs.Free.{Frees}
use Rattle.uma_zone.specs.OwnDomain.{Flushes, IsFlushed, IsSettled}
use Rattle.uma_zone.specs.Ports.{sent_of}
use Rattle.uma_zone.specs.Prealloc.{Preallocs, RefusesPrealloc, slabs_for}
use Rattle.uma_zone.specs.Told.{TakesInNote}
use Rattle.uma_zone.specs.Zone.{lists_of, zone_home, zone_size, zone_smr}
use Rattle.zone_stats.specs.declared.refusal.Refusal.{Refusal}
use Rattle.zone_stats.specs.LedgerSteps.{CountsFree}
use Rattle.replay_worker.specs.Items.{CountedSeat, CountedZone, LiveItem}

module _ {H P : Type 0} {h : Ghosts H P} where
  -- the request got an item of the zone, with its own right to the reserve where it was fetched, built by the zone's `ctor` with its argument; or it was refused so
  abbrev pub Ends : CountedZone H P h → AllocAsk → CountedSeat H P h → Option LiveItem → CountedSeat H P h → Type 0
  Ends zone ask old (Some item) new = Serves zone ask old item new × IsHome (zone_home zone) (live_ticket item)
  Ends zone ask old None new = (refusal : Refusal) × AllocIsRefused zone ask old new (Refused refusal)

  -- A request. What the seat has freed, and where its spare buckets stand, stays but for what the zone's flush did.
  pub record Requests (zone : CountedZone H P h) (ask : AllocAsk) (old : CountedSeat H P h) (got : Option LiveItem) (new : CountedSeat H P h) : Type 0 where
    pub ends : Ends zone ask old got new
    pub same : IsSameSeat old new
    pub spare : length (spares_of old) ≤ length (spares_of new)
    pub unflushed : usable_of old ≢ [] → KeepsRack old new
    pub plain : plain_of new ≡ plain_ready old
    pub freed : KeepsFreed old new

  -- What a request did by a pass whose view was v before and v' after. Where an item was usable it did nothing by it, and pushed nothing. Else the seat was flushed: each loose bucket of its shelf tried once to be sealed, then each loose one in the list of its own domain did, and then the oldest buckets of the shelf went by the seat's ports to their domains. After that its own domain was settled. The pass took in one note at most.
  pub record Reaches (zone : CountedZone H P h) (v : View P) (old new : CountedSeat H P h) (v' : View P) : Type 0 where
    pub host : TakesInNote h.merged v.host v'.host
    pub shelf : HasLastOf (shelf_of old) (shelf_of new)
    pub flushed : usable_of old ≡ [] → IsFlushed (lists_of zone) (seat_domain old) h.copied (shelf_of old) (shelf_of new) (sent_of old) (sent_of new) v
    pub settled : usable_of old ≡ [] → IsSettled (lists_of zone) (seat_domain old) h.copied
    pub unpushed : usable_of old ≢ [] → KeepsPorts old new
    pub unseen : usable_of old ≢ [] → v' ≡ v

  -- A spare bucket is there: it was, or else the seat was flushed and got two. Its items stay where they are, but for the shelf's, and its counts are as they were.
  pub record MakesReady (old new : CountedSeat H P h) : Type 0 where
    pub spare : 0 < length (spares_of new)
    pub unflushed : 0 < length (spares_of old) → new ≡ old
    pub same : IsSameSeat old new
    pub top : KeepsTop old new
    pub plain : KeepsPlain old new
    pub freed : KeepsFreed old new
    pub counts : KeepsCounts old new
    pub misses : KeepsMisses old new

  -- The bucket of the item's domain, which is full with it, was tried to be sealed, by a pass whose view was v before and v' after, and is the newest on the shelf.
  abbrev pub Shelves : View P → CountedSeat H P h → LiveItem → CountedSeat H P h → View P → Type 0
  Shelves v old item new v' = ShelvesFreed h.copied v old (live_domain item) (with_item (stack_at (freed_of old) (live_domain item)) item) new v'

  -- The item stays built, and is deferred: it lies in the seat's bucket of its domain, or with that, which is full so, on the shelf; and no item of the seat becomes usable.
  pub record Defers (old : CountedSeat H P h) (item : LiveItem) (new : CountedSeat H P h) : Type 0 where
    pub put : is_filled_by_one (stack_at (freed_of old) (live_domain item)) ≡ false → freed_of new ≡ slice_set (freed_of old) (live_domain item) (with_item (stack_at (freed_of old) (live_domain item)) item)
    pub rack : is_filled_by_one (stack_at (freed_of old) (live_domain item)) ≡ false → KeepsRack old new
    pub full : is_filled_by_one (stack_at (freed_of old) (live_domain item)) ≡ true → (v : View P) × (v' : View P) × Shelves v old item new v'
    pub usable : usable_of new ≡ usable_of old
    pub plain : KeepsPlain old new

  -- A free of a ready seat, by the zone's kind: in a plain zone the item passed `dtor` and lies on the seat; in an SMR zone it is deferred. One free is counted.
  pub record Releases (zone : CountedZone H P h) (old : CountedSeat H P h) (item : LiveItem) (new : CountedSeat H P h) : Type 0 where
    pub plain : zone_smr zone ≡ false → Frees zone old item new
    pub smr : zone_smr zone ≡ true → Defers old item new
    pub counted : CountsFree (ledger_of old) (ledger_of new) (not (live_domain item == seat_domain old))
    pub fetches : fetches_of new ≡ fetches_of old
    pub same : IsSameSeat old new
    pub top : KeepsTop old new
    pub misses : KeepsMisses old new

  -- the free of an item by a seat that is made ready first
  pub record GivesBack (zone : CountedZone H P h) (old : CountedSeat H P h) (item : LiveItem) (new : CountedSeat H P h) : Type 0 where
    pub ready : CountedSeat H P h
    pub made : MakesReady old ready
    pub released : Releases zone ready item new

  -- How the seat was made ready, by a pass whose view was v before and v' after. Where a spare bucket was there nothing was done. Else each loose bucket of the shelf tried once to be sealed, then each loose one in the list of the seat's own domain did, then the whole shelf went by the seat's ports to its domains, and there are two spare buckets.
  pub record ReadiesSeat (zone : CountedZone H P h) (v : View P) (old ready : CountedSeat H P h) (v' : View P) : Type 0 where
    pub host : v'.host ≡ v.host
    pub nothing : 0 < length (spares_of old) → v' ≡ v
    pub flushes : length (spares_of old) ≡ 0 → Flushes (lists_of zone) (seat_domain old) h.copied (shelf_of old) (shelf_of ready) (sent_of old) (sent_of ready) v v'
    pub flushed : length (spares_of old) ≡ 0 → shelf_of ready ≡ []
    pub two : length (spares_of old) ≡ 0 → length (spares_of ready) ≡ 2

  -- What the free did by a pass whose view was v before and v' after: nothing, but where it filled a bucket of deferred items, which was tried to be sealed.
  pub record ReleasesBy (zone : CountedZone H P h) (v : View P) (old : CountedSeat H P h) (item : LiveItem) (new : CountedSeat H P h) (v' : View P) : Type 0 where
    pub host : v'.host ≡ v.host
    pub plain : zone_smr zone ≡ false → v' ≡ v
    pub unseen : zone_smr zone ≡ true → is_filled_by_one (stack_at (freed_of old) (live_domain item)) ≡ false → v' ≡ v
    pub full : zone_smr zone ≡ true → is_filled_by_one (stack_at (freed_of old) (live_domain item)) ≡ true → Shelves v old item new v'

  -- both, one after the other, by the worker's pass
  pub record HasFreed (zone : CountedZone H P h) (v : View P) (old ready : CountedSeat H P h) (item : LiveItem) (new : CountedSeat H P h) (v' : View P) : Type 0 where
    pub between : View P
    pub readies : ReadiesSeat zone v old ready between
    pub releases : ReleasesBy zone between ready item new v'

  -- the free of an item by a seat that is made ready first, by a pass whose view was v before and v' after
  pub record IsGivenBack (zone : CountedZone H P h) (v : View P) (old : CountedSeat H P h) (item : LiveItem) (new : CountedSeat H P h) (v' : View P) : Type 0 where
    pub gives : GivesBack zone old item new
    pub freed : HasFreed zone v old gives.ready item new v'

  -- How a `prealloc` ends: slabs of this domain came into the zone's keg for so many items, or some of them up to a refusal, which is passed over.
  abbrev pub BringsItems : CountedZone H P h → ℕ → ℕ → Type 0
  BringsItems zone items domain = Preallocs zone domain (slabs_for items (min 256 (4096 / zone_size zone))) ⊎ ((refusal : Refusal) × RefusesPrealloc zone items domain (RefusedFetch refusal))
