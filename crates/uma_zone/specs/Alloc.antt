-- Own: how a request ends, as contracts see it.
use Rattle.std.specs.Prelude.{◌≡◌, ◌≤◌, ◌<◌, ◌⊎◌, ℕ, Bool, true, false, Some, None, List, [], ◌∷◌, ◌++◌, length}
use Rattle.deed_book.specs.FailViews.{cause}
use Rattle.uma_life.specs.declared.states.Cached.{Cached}
use Rattle.uma_life.specs.declared.states.Live.{Live}
use Rattle.uma_life.specs.Cached.{cached_body, cached_ticket}
use Rattle.uma_life.specs.Live.{live_body, live_ticket}
use Rattle.uma_life.specs.Hook.{Ctor, after, IsCode}
use Rattle.zone_stats.specs.declared.refusal.Refusal.{Refusal}
use Rattle.zone_stats.specs.declared.refusal.Refusal.TheVariants.{AtLimit, Reserved, Full, Init, Ctor as Ctor'}
use Rattle.zone_stats.specs.LedgerSteps.{CountsAlloc, CountsTurned, CountsCtor}
use Rattle.smr_clock.specs.Goals.{number_of}
use Rattle.uma_bucket.specs.declared.freed.Ripe.{Ripe}
use Rattle.uma_bucket.specs.Finished.{AreFinished}
use Rattle.uma_bucket.specs.Loose.{loose_items}
use Rattle.uma_bucket.specs.Ripe.{ripe_bucket, ripe_goal, ripe_knows, IsRipeAt, IsOverFrom}
use Rattle.uma_domain.specs.Lists.{IsRaised}
use Rattle.uma_keg.specs.declared.keg.Keg.{Keg}
use Rattle.uma_keg.specs.declared.fetch.FetchRefused.TheVariants.{Refused as RefusedFetch}
use Rattle.uma_keg.specs.Fetched.{Fetches, RefusesFetch}
use Rattle.uma_keg.specs.Keg.{table_in, reserve_in}
use Rattle.uma_seat.specs.declared.seat.SeatCache.{SeatCache}
use Rattle.uma_seat.specs.Fetches.{refusal_cause}
use Rattle.uma_seat.specs.Seat.{seat_domain, usable_of, top_of, ledger_of, fetches_of, misses_of}
use Rattle.uma_zone.specs.declared.zone.alloc.AllocAsk.{AllocAsk}
use Rattle.uma_zone.specs.declared.zone.alloc.AllocRefused.{AllocRefused}
use Rattle.uma_zone.specs.declared.zone.alloc.AllocRefused.TheVariants.{Refused, Memory}
use Rattle.uma_zone.specs.declared.zone.Zone.{Zone}
use Rattle.uma_zone.specs.OwnDomain.{AreFoundIn, FindsNothing}
use Rattle.uma_zone.specs.Zone.{zone_home, zone_hooks, zone_index, zone_cap, zone_reserve, zone_smr, zone_clock}

module _ {T H P : Type 0} {g h : _} where
  -- The item was usable on the seat as the request began, the last that was put. Nothing was looked for, and nothing fetched.
  pub record TakesOwn (old : SeatCache T H P g h) (item : Cached T g) (left : List (Cached T g)) (new : SeatCache T H P g h) : Type 0 where
    pub last : usable_of old ≡ left ++ item ∷ []
    pub fetches : fetches_of new ≡ fetches_of old
    pub misses : misses_of new ≡ misses_of old

  -- Memory was wanting, for the flush, or for the one fetch after a look that found nothing. Nothing is counted, and no item was usable before or is after.
  pub record WantsMemory (old new : SeatCache T H P g h) : Type 0 where
    pub empty : usable_of old ≡ []
    pub still : usable_of new ≡ []
    pub ledger : ledger_of new ≡ ledger_of old
    pub fetches : ((fetches_of new ≡ fetches_of old) ⊎ (IsRaised (misses_of old) (misses_of new) × (fetches_of new ≡ fetches_of old ++ cause 7 0 0 ∷ [])))

module _ {T K H P : Type 0} {g k h : _} where
  -- These items came by one fetch of the zone's keg, as that stood under its lock: for this zone and by its hooks, of the seat's domain, at most as many as the allocation bucket has room for, and with the right to the keg's reserve or without it.
  pub record IsOneFetch (zone : Zone T K H P g k h) (reserve : Bool) (items : List (Cached T g)) (new : SeatCache T H P g h) : Type 0 where
    pub was : Keg T K g k
    pub is : Keg T K g k
    pub of_zone : table_in was ≡ (zone_home zone).book
    pub kept : reserve_in was ≡ zone_reserve zone
    pub fetches : Fetches was (zone_hooks zone) (record { zone = zone_index zone; most = (top_of new).room; reserve = reserve; domain = seat_domain new }) items is

  -- One fetch of the zone's keg, as that stood under its lock, was refused so. It was made as one that gives items is: for this zone and by its hooks, for the seat's domain, for as many items as the allocation bucket has room for, and with the right to the keg's reserve or without it. So the numbers that the refusal names are those that this fetch found.
  pub record IsOneRefusal (zone : Zone T K H P g k h) (reserve : Bool) (refusal : Refusal) (new : SeatCache T H P g h) : Type 0 where
    pub was : Keg T K g k
    pub is : Keg T K g k
    pub of_zone : table_in was ≡ (zone_home zone).book
    pub kept : reserve_in was ≡ zone_reserve zone
    pub refuses : RefusesFetch was (zone_hooks zone) (record { zone = zone_index zone; most = (top_of new).room; reserve = reserve; domain = seat_domain new }) is (RefusedFetch refusal)

  -- No item was usable, the look at the lists of the seat's own domain found nothing, and the one fetch of the request, with that right to the reserve, gave just these.
  pub record FetchesSome (zone : Zone T K H P g k h) (reserve : Bool) (old : SeatCache T H P g h) (items : List (Cached T g)) (new : SeatCache T H P g h) : Type 0 where
    pub empty : usable_of old ≡ []
    pub looked : FindsNothing zone.domains (seat_domain old)
    pub missed : IsRaised (misses_of old) (misses_of new)
    pub one : IsOneFetch zone reserve items new
    pub fetches : fetches_of new ≡ fetches_of old ++ cause 6 (length items) 0 ∷ []

  -- These items were freed, and waited in a bucket with a goal until a poll of it said yes: in this ripe bucket, whose note is of the zone's clock. Each passed `dtor` after that. The note knows that the bucket's goal is expired, and from the moment on at which a seat of the clock knows as much, no section that was entered before that goal is open.
  pub record AreReused (zone : Zone T K H P g k h) (items : List (Cached T g)) : Type 0 where
    pub ripe : Ripe T H P g h
    pub of_clock : IsRipeAt (zone_clock zone) ripe
    pub finished : AreFinished (k.leaves_dtor (zone_hooks zone)) (loose_items (ripe_bucket ripe)) items
    pub expired : number_of (ripe_goal ripe) ≤ (ripe_knows ripe).holder.floor
    pub over : IsOverFrom (ripe_knows ripe) (number_of (ripe_goal ripe))

  -- No item was usable, and the look at the lists of the seat's own domain found some; nothing was fetched. In an SMR zone they waited until no section may see them.
  pub record FindsListed (zone : Zone T K H P g k h) (old : SeatCache T H P g h) (items : List (Cached T g)) (new : SeatCache T H P g h) : Type 0 where
    pub empty : usable_of old ≡ []
    pub fetches : fetches_of new ≡ fetches_of old
    pub misses : misses_of new ≡ misses_of old
    pub own : AreFoundIn zone.domains (seat_domain old) (k.leaves_dtor (zone_hooks zone)) items
    pub reused : zone_smr zone ≡ true → AreReused zone items

  -- Where the item of a request comes from: the seat itself, or else its domain's lists, or else the keg, by the request's right to the reserve. These usable items are left behind it, and they are all that came with it.
  abbrev pub TakesUsable : Zone T K H P g k h → Bool → SeatCache T H P g h → Cached T g → List (Cached T g) → SeatCache T H P g h → Type 0
  TakesUsable zone reserve old item left new = TakesOwn old item left new ⊎ FindsListed zone old (left ++ item ∷ []) new ⊎ FetchesSome zone reserve old (left ++ item ∷ []) new

  -- The seat, of which no item was usable, has items in its allocation bucket now: some that its domain listed, or some that one fetch gave.
  pub record IsFilled (zone : Zone T K H P g k h) (reserve : Bool) (old new : SeatCache T H P g h) : Type 0 where
    pub some : 1 ≤ length (top_of new).items
    pub from : FindsListed zone old (top_of new).items new ⊎ FetchesSome zone reserve old (top_of new).items new
    pub ledger : ledger_of new ≡ ledger_of old

  -- `ctor` of the zone took the item with this argument, and left the live one.
  pub record IsBuilt (zone : Zone T K H P g k h) (arg : ℕ) (item : Cached T g) (live : Live T g) : Type 0 where
    pub ticket : live_ticket live ≡ cached_ticket item
    pub passed : g.life (live_body live) ≡ after (Ctor (zone_index zone)) (g.life (cached_body item))
    pub accepted : k.refuses_ctor (zone_hooks zone) (cached_body item) (zone_index zone) arg ≡ None
    pub left : k.leaves_ctor (zone_hooks zone) (cached_body item) (zone_index zone) arg (live_body live)

  -- An item was taken, and passed `ctor` in this request. One request and one alloc are counted.
  pub record Serves (zone : Zone T K H P g k h) (ask : AllocAsk) (old : SeatCache T H P g h) (live : Live T g) (new : SeatCache T H P g h) : Type 0 where
    pub item : Cached T g
    pub takes : TakesUsable zone ask.reserve old item (usable_of new) new
    pub built : IsBuilt zone ask.arg item live
    pub counted : CountsAlloc (ledger_of old) (ledger_of new)

  -- `ctor` refused the item with this code. It lies on top of the usable items, and the refusal is counted and kept.
  pub record PutsBack (zone : Zone T K H P g k h) (arg : ℕ) (item : Cached T g) (code : ℕ) (old new : SeatCache T H P g h) : Type 0 where
    pub back : usable_of new ≡ usable_of old ++ item ∷ []
    pub refused : k.refuses_ctor (zone_hooks zone) (cached_body item) (zone_index zone) arg ≡ Some code
    pub is_code : IsCode code
    pub counted : CountsCtor (ledger_of old) (ledger_of new) code

  -- The item was taken, and `ctor` refused it with this code. It lies on top of the usable items again, and the refusal is counted and kept.
  pub record RefusesCtor (zone : Zone T K H P g k h) (ask : AllocAsk) (code : ℕ) (old new : SeatCache T H P g h) : Type 0 where
    pub item : Cached T g
    pub left : List (Cached T g)
    pub takes : TakesUsable zone ask.reserve old item left new
    pub back : usable_of new ≡ left ++ item ∷ []
    pub refused : k.refuses_ctor (zone_hooks zone) (cached_body item) (zone_index zone) ask.arg ≡ Some code
    pub is_code : IsCode code
    pub counted : CountsCtor (ledger_of old) (ledger_of new) code

  -- What a refusal of a fetch names:
  -- 1. The limit that it found, above 0, and as many items outside or more.
  -- 2. The keg's reserve, and some free items, none beyond it, for a request without the right to it.
  -- 3. As many slabs as the keg may have.
  -- 4. A code with which hooks refuse a body: the keg's as it is brought in, or the zone's own as it enters the zone.
  -- 5. No fetch runs `ctor`.
  abbrev pub Names : Zone T K H P g k h → Bool → Refusal → Type 0
  Names zone reserve (AtLimit out limit) = (limit ≤ out) × (0 < limit)
  Names zone reserve (Reserved free kept) = (kept ≡ zone_reserve zone) × (0 < free) × (free ≤ kept) × (reserve ≡ false)
  Names zone reserve (Full slabs made) = slabs ≡ zone_cap zone
  Names zone reserve (Init code) =
      (hooks : K) × (body : T) × (index : ℕ) × ((index ≡ 0) ⊎ ((index ≡ zone_index zone) × (hooks ≡ zone_hooks zone))) × (k.refuses_init hooks body index ≡ Some code)
  Names zone reserve (Ctor' code) = ⊥

  -- No item was usable as the request began, its look at the seat's own domain found nothing, and its one fetch was refused so. The refusal is counted and kept, and no item is usable.
  pub record TurnsAway (zone : Zone T K H P g k h) (reserve : Bool) (refusal : Refusal) (old new : SeatCache T H P g h) : Type 0 where
    pub empty : usable_of old ≡ []
    pub still : usable_of new ≡ []
    pub looked : FindsNothing zone.domains (seat_domain old)
    pub missed : IsRaised (misses_of old) (misses_of new)
    pub fetches : fetches_of new ≡ fetches_of old ++ refusal_cause refusal ∷ []
    pub counted : CountsTurned (ledger_of old) (ledger_of new) refusal
    pub one : IsOneRefusal zone reserve refusal new
    pub names : Names zone reserve refusal

  -- why no item was taken, and what that did to the seat
  abbrev pub RefusesToTake : Zone T K H P g k h → Bool → SeatCache T H P g h → SeatCache T H P g h → AllocRefused → Type 0
  RefusesToTake zone reserve old new (Refused refusal) = TurnsAway zone reserve refusal old new
  RefusesToTake zone reserve old new Memory = WantsMemory old new

  -- Why a request got no item, and what it did to its seat: `ctor` refused one that was taken, or none was taken.
  abbrev pub AllocIsRefused : Zone T K H P g k h → AllocAsk → SeatCache T H P g h → SeatCache T H P g h → AllocRefused → Type 0
  AllocIsRefused zone ask old new (Refused (Ctor' code)) = RefusesCtor zone ask code old new
  AllocIsRefused zone ask old new (Refused refusal) = TurnsAway zone ask.reserve refusal old new
  AllocIsRefused zone ask old new Memory = WantsMemory old new
