-- Safe reuse over the calls of a zone whose readers hold no lock: an item that was freed is usable on a seat again, or handed out, only once a poll said yes for the goal of its bucket. The rule is that of FreeBSD's smr(9); the form is own.
use Rattle.std.specs.Prelude.{◌≡◌, ◌≢◌, ◌≤◌, ◌⊎◌, ℕ, true, List, [], ◌∷◌, ◌++◌, map}
use Rattle.std.specs.List.{Contains}
use Rattle.smr_clock.specs.declared.host.Host.{Ghosts as HostGhosts}
use Rattle.smr_clock.specs.Goals.{number_of}
use Rattle.uma_life.specs.declared.hooks.Body.{Ghosts}
use Rattle.uma_life.specs.declared.hooks.Hooks.{Ghosts as HooksGhosts}
use Rattle.uma_life.specs.declared.states.Live.{Live}
use Rattle.uma_life.specs.declared.states.Ticket.{Ticket}
use Rattle.uma_life.specs.Cached.{cached_ticket}
use Rattle.uma_life.specs.Live.{live_ticket}
use Rattle.uma_bucket.specs.declared.freed.Ripe.{Ripe}
use Rattle.uma_bucket.specs.Loose.{loose_tickets}
use Rattle.uma_bucket.specs.Ripe.{ripe_bucket, ripe_goal, ripe_knows, IsOverFrom}
use Rattle.uma_seat.specs.declared.seat.SeatCache.{SeatCache}
use Rattle.uma_seat.specs.Seat.{usable_of, IsSameSeat, KeepsTop, KeepsPlain}
use Rattle.uma_zone.specs.declared.zone.alloc.AllocAsk.{AllocAsk}
use Rattle.uma_zone.specs.declared.zone.alloc.AllocRefused.{AllocRefused}
use Rattle.uma_zone.specs.declared.zone.Zone.{Zone}
use Rattle.uma_zone.specs.Zone.{zone_smr}
use Rattle.uma_zone.specs.Alloc.{Serves, AllocIsRefused}

-- ---- one call

-- A bucket of freed items that was found ripe. A poll of its goal said yes: its note knows that this goal is expired, and from the moment on at which a seat of the clock knows as much, no section that was entered before the goal is open.
pub record Ripened (T H P : Type 0) (g h : _) : Type 0 where
  pub ripe : Ripe T H P g h
  pub expired : number_of (ripe_goal ripe) ≤ (ripe_knows ripe).holder.floor
  pub over : IsOverFrom (ripe_knows ripe) (number_of (ripe_goal ripe))

-- what a call brought to its seat: nothing, the items of a bucket that it found ripe, or items that its fetch got from the keg
pub data Brought (T H P : Type 0) (g h : _) : Type 0 where
  Nothing : Brought T H P g h
  FromRipe : Ripened T H P g h → Brought T H P g h
  FromKeg : List Ticket → Brought T H P g h

-- which items they are, by their tickets
abbrev pub ripe_tickets : {T H P : Type 0} {g h : _} → Brought T H P g h → List Ticket
ripe_tickets Nothing = []
ripe_tickets (FromRipe bucket) = loose_tickets (ripe_bucket bucket.ripe)
ripe_tickets (FromKeg tickets) = []

abbrev pub keg_tickets : {T H P : Type 0} {g h : _} → Brought T H P g h → List Ticket
keg_tickets Nothing = []
keg_tickets (FromRipe bucket) = []
keg_tickets (FromKeg tickets) = tickets

-- What was usable on the seat, and what the call brought, is what it handed out and what is usable after it.
abbrev pub Balances : {T H P : Type 0} {g h : _} → List Ticket → Brought T H P g h → List Ticket → List Ticket → Type 0
Balances old brought handed new = new ++ handed ≡ old ++ ripe_tickets brought ++ keg_tickets brought

-- the items that an allocation can have, by their tickets
abbrev pub usable_tickets : {T H P : Type 0} {g h : _} → SeatCache T H P g h → List Ticket
usable_tickets seat = map cached_ticket (usable_of seat)

-- ---- what the calls of a zone do, by their contracts

module _ {T K H P : Type 0} {g k h : _} where
  -- a request that is served hands out its item, and a refused one none
  abbrev pub ServedBalances : Zone T K H P g k h → Type 0
  ServedBalances zone =
      (ask : AllocAsk) (old new : SeatCache T H P g h) (live : Live T g) → zone_smr zone ≡ true → Serves zone ask old live new
      → (brought : Brought T H P g h) × Balances (usable_tickets old) brought (live_ticket live ∷ []) (usable_tickets new)

  abbrev pub RefusedBalances : Zone T K H P g k h → Type 0
  RefusedBalances zone =
      (ask : AllocAsk) (old new : SeatCache T H P g h) (why : AllocRefused) → zone_smr zone ≡ true → AllocIsRefused zone ask old new why
      → (brought : Brought T H P g h) × Balances (usable_tickets old) brought [] (usable_tickets new)

-- A call that keeps the bucket to allocate from and the plain ones, as `free_smr`, `flush` and `make_room` do, brings and hands out nothing.
abbrev pub KeptBalances : {T H P : Type 0} {g h : _} → SeatCache T H P g h → SeatCache T H P g h → Type 0
KeptBalances {T = T} {H = H} {P = P} {g = g} {h = h} old new = IsSameSeat old new → KeepsTop old new → KeepsPlain old new → Balances {T = T} {H = H} {P = P} {g = g} {h = h} (usable_tickets old) Nothing [] (usable_tickets new)

-- ---- a sequence of calls

-- A call, on which of the zone's seats it acted, what it brought there and which items it handed out.
pub record Call (T H P : Type 0) (g h : _) : Type 0 where
  pub seat : ℕ
  pub brought : Brought T H P g h
  pub handed : List Ticket

-- what is usable on each seat, before a call and after it
pub record Happens {T H P : Type 0} {g h : _} (old : ℕ → List Ticket) (call : Call T H P g h) (new : ℕ → List Ticket) : Type 0 where
  pub own : Balances (old call.seat) call.brought call.handed (new call.seat)
  pub others : (seat : ℕ) → seat ≢ call.seat → new seat ≡ old seat

-- the calls happen one after another
abbrev pub Happen : {T H P : Type 0} {g h : _} → (ℕ → List Ticket) → List (Call T H P g h) → (ℕ → List Ticket) → Type 0
Happen old [] new = (seat : ℕ) → new seat ≡ old seat
Happen old (call ∷ calls) new = (next : ℕ → List Ticket) × Happens old call next × Happen next calls new

abbrev pub IsUsable : (ℕ → List Ticket) → Ticket → Type 0
IsUsable usable item = (seat : ℕ) × Contains (usable seat) item

-- one of the calls handed the item out, found it in a ripe bucket, or got it from the keg
abbrev pub HandsOut : {T H P : Type 0} {g h : _} → List (Call T H P g h) → Ticket → Type 0
HandsOut [] item = ⊥
HandsOut (call ∷ calls) item = Contains call.handed item ⊎ HandsOut calls item

abbrev pub FindsRipe : {T H P : Type 0} {g h : _} → List (Call T H P g h) → Ticket → Type 0
FindsRipe [] item = ⊥
FindsRipe (call ∷ calls) item = Contains (ripe_tickets call.brought) item ⊎ FindsRipe calls item

abbrev pub GetsFromKeg : {T H P : Type 0} {g h : _} → List (Call T H P g h) → Ticket → Type 0
GetsFromKeg [] item = ⊥
GetsFromKeg (call ∷ calls) item = Contains (keg_tickets call.brought) item ⊎ GetsFromKeg calls item

-- An item that is usable on no seat, as one that `free_smr` takes, is usable on one after some calls, or was handed out by one, only where one of them found it in a ripe bucket, or got it from the keg. Into the keg goes no freed item: that is a matter of types.
abbrev pub FreedWait : (T H P : Type 0) (g : Ghosts T) (h : HostGhosts H P) → Type 0
FreedWait T H P g h =
    (item : Ticket) (old new : ℕ → List Ticket) (calls : List (Call T H P g h)) → (IsUsable old item → ⊥) → Happen old calls new
    → IsUsable new item ⊎ HandsOut calls item → FindsRipe calls item ⊎ GetsFromKeg calls item

-- ---- the law

-- each call on a seat balances so, and over any calls a freed item waits
pub record ReusesSafely (T K H P : Type 0) (g : Ghosts T) (k : HooksGhosts K T) (h : HostGhosts H P) : Type 0 where
  pub served : (zone : Zone T K H P g k h) → ServedBalances zone
  pub refused : (zone : Zone T K H P g k h) → RefusedBalances zone
  pub kept : (old new : SeatCache T H P g h) → KeptBalances old new
  pub sequence : FreedWait T H P g h
