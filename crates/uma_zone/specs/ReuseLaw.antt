-- Safe reuse over the calls of a zone whose readers hold no lock, with the goals: an item that was freed comes back only out of a bucket whose goal was made in its own free or after it, and is expired. It joins the laws of the calls (`SafeReuse`), of the frees (`SealLaw`) and of the tries (`TriesLaw`). Own, after FreeBSD's smr(9).
use Rattle.std.specs.Prelude.{◌≡◌, ◌≢◌, ◌⊎◌, ℕ, true, false, List, [], ◌∷◌, ◌++◌, map}
use Rattle.std.specs.List.{Contains}
use Rattle.smr_clock.specs.declared.pass.Goal.{Goal}
use Rattle.smr_clock.specs.declared.host.Host.{Ghosts as HostGhosts}
use Rattle.smr_clock.specs.declared.clock.Setup.{Setup}
use Rattle.smr_clock.specs.declared.view.View.{View}
use Rattle.smr_clock.specs.Belongs.{TableId}
use Rattle.uma_life.specs.declared.hooks.Body.{Ghosts}
use Rattle.uma_life.specs.declared.states.Live.{Live}
use Rattle.uma_life.specs.declared.states.Ticket.{Ticket}
use Rattle.uma_life.specs.Live.{live_ticket}
use Rattle.uma_bucket.specs.declared.freed.Loose.{Loose}
use Rattle.uma_bucket.specs.declared.freed.Sealed.{Sealed}
use Rattle.uma_bucket.specs.declared.shelved.Shelved.{Shelved}
use Rattle.uma_bucket.specs.declared.shelved.Shelved.TheVariants.{Plain, Loose as Loose', Sealed as Sealed'}
use Rattle.uma_bucket.specs.Loose.{loose_tickets}
use Rattle.uma_bucket.specs.Ripe.{ripe_bucket, ripe_goal}
use Rattle.uma_bucket.specs.Sealed.{Seals, sealed_bucket, sealed_goal}
use Rattle.uma_seat.specs.declared.seat.SeatCache.{SeatCache}
use Rattle.uma_seat.specs.Seat.{freed_of, KeepsFreed}
use Rattle.uma_seat.specs.Stack.{Stack, stack_at}
use Rattle.uma_zone.specs.Free.{Defers}
use Rattle.uma_zone.specs.SafeReuse.{Brought, Nothing, FromRipe, FromKeg, Ripened, Balances, Call, Happens, IsUsable, keg_tickets, usable_tickets}
use Rattle.uma_zone.specs.SealLaw.{SmrFree, is_filled_by}
use Rattle.uma_zone.specs.TriesLaw.{IsSealedThen}

-- ---- where items are

-- a bucket that waits, and the goal for which it does
pub record Waiting (T : Type 0) (g : _) : Type 0 where
  pub bucket : Loose T g
  pub goal : Goal

-- Where a zone's items are that no caller has and that aren't in the keg: on each seat those usable and those deferred, and the full buckets of deferred ones, loose or with a goal, on whichever shelf, in whichever inbox or list they lie.
pub record Places (T : Type 0) (g : _) : Type 0 where
  pub usable : ℕ → List Ticket
  pub deferred : ℕ → List (Stack (Live T g))
  pub loose : List (Loose T g)
  pub waiting : List (Waiting T g)

module _ {T : Type 0} {g : _} where
  abbrev pub IsDeferred : Places T g → Ticket → Type 0
  IsDeferred places item = (seat : ℕ) × (domain : ℕ) × Contains (map live_ticket (stack_at (places.deferred seat) domain).items) item

  abbrev pub IsLoose : Places T g → Ticket → Type 0
  IsLoose places item = (bucket : Loose T g) × Contains places.loose bucket × Contains (loose_tickets bucket) item

  abbrev pub Waits : Places T g → Ticket → Type 0
  Waits places item = (one : Waiting T g) × Contains places.waiting one × Contains (loose_tickets one.bucket) item

  -- it is in none of these places, as an item that `free_smr` takes
  abbrev pub IsAway : Places T g → Ticket → Type 0
  IsAway places item = (IsUsable places.usable item ⊎ IsDeferred places item) ⊎ (IsLoose places item ⊎ Waits places item) → ⊥

-- ---- the calls

-- A later try that sealed a loose bucket, by a pass whose view was v before and v' after, as the clauses of a settle (`Tries`) and of a flush (`TriesOnce` for the shelf, `Tries` for the list of the seat's domain) report it.
pub record Seal (T H P : Type 0) (g h : _) (copied : P → P) : Type 0 where
  pub loose : Loose T g
  pub sealed : Sealed T H P g h
  pub v : View P
  pub v' : View P
  pub seals : Seals copied v loose sealed v'

-- A free by `free_smr` on the seat of this number, a try that sealed, a request with the look or the fetch that it made, or a call by which items only go to the keg, as a trim and a drain. A refused try is no step, nor are a flush and a settle but for the tries that seal: they move buckets alone.
pub data Step (T H P : Type 0) (g h : _) (copied : P → P) : Type 0 where
  Frees : ℕ → SmrFree T H P g h copied → Step T H P g h copied
  Tries : Seal T H P g h copied → Step T H P g h copied
  Asks : Call T H P g h → Step T H P g h copied
  Gives : Step T H P g h copied

-- what a call did by which items only go to the keg: usable ones, and those of buckets that wait
pub record Giving {T : Type 0} {g : _} (old new : Places T g) : Type 0 where
  pub usable : (each : ℕ) (item : Ticket) → Contains (new.usable each) item → Contains (old.usable each) item
  pub waiting : (one : Waiting T g) → Contains new.waiting one → Contains old.waiting one
  pub loose : new.loose ≡ old.loose
  pub deferred : (each : ℕ) → new.deferred each ≡ old.deferred each

module _ {T H P : Type 0} {g h : _} where
  -- The bucket that a free filled: it has a goal, where it was sealed in the free, or is loose.
  abbrev pub Shelves : Places T g → Shelved T H P g h → Places T g → Type 0
  Shelves old (Sealed' number sealed) new = (new.loose ≡ old.loose) × (new.waiting ≡ old.waiting ++ record { bucket = sealed_bucket sealed; goal = sealed_goal sealed } ∷ [])
  Shelves old (Loose' number loose) new = (new.loose ≡ old.loose ++ loose ∷ []) × (new.waiting ≡ old.waiting)
  Shelves old (Plain number bucket) new = ⊥

  -- The look of a request takes the bucket that it finds ripe, with the goal for which that waited. That it is one of those sealed before, and that each bucket is taken once, is a matter of types: a ripe bucket is made of a sealed one alone, by `open`, which keeps items and goal (`IsOpened`), and takes that by value.
  abbrev pub Takes : List (Waiting T g) → Brought T H P g h → List (Waiting T g) → Type 0
  Takes old (FromRipe found) new = (before : List (Waiting T g)) × (behind : List (Waiting T g)) × (old ≡ before ++ record { bucket = ripe_bucket found.ripe; goal = ripe_goal found.ripe } ∷ behind) × (new ≡ before ++ behind)
  Takes old Nothing new = new ≡ old
  Takes old (FromKeg tickets) new = new ≡ old

  -- what a free did: the item is deferred on its seat, or fills a bucket there
  pub record Freeing (copied : P → P) (old : Places T g) (seat : ℕ) (free : SmrFree T H P g h copied) (new : Places T g) : Type 0 where
    pub was : old.deferred seat ≡ freed_of free.old
    pub is : new.deferred seat ≡ freed_of free.new
    pub others : (other : ℕ) → other ≢ seat → new.deferred other ≡ old.deferred other
    pub usable : (each : ℕ) → new.usable each ≡ old.usable each
    pub put : is_filled_by free.old free.live ≡ false → (new.loose ≡ old.loose) × (new.waiting ≡ old.waiting)
    pub full : (filled : is_filled_by free.old free.live ≡ true) → Shelves old (free.full filled).newest new

  -- what a try did: one of the loose buckets waits
  pub record Sealing (copied : P → P) (old : Places T g) (seal : Seal T H P g h copied) (new : Places T g) : Type 0 where
    pub before : List (Loose T g)
    pub behind : List (Loose T g)
    pub was : old.loose ≡ before ++ seal.loose ∷ behind
    pub is : new.loose ≡ before ++ behind
    pub waiting : new.waiting ≡ old.waiting ++ record { bucket = sealed_bucket seal.sealed; goal = sealed_goal seal.sealed } ∷ []
    pub usable : (each : ℕ) → new.usable each ≡ old.usable each
    pub deferred : (each : ℕ) → new.deferred each ≡ old.deferred each

  -- what a request did: what is usable balances, and its look took a bucket
  pub record Asking (old : Places T g) (call : Call T H P g h) (new : Places T g) : Type 0 where
    pub usable : Happens old.usable call new.usable
    pub waiting : Takes old.waiting call.brought new.waiting
    pub loose : new.loose ≡ old.loose
    pub deferred : (each : ℕ) → new.deferred each ≡ old.deferred each

  abbrev pub Does : {copied : P → P} → Places T g → Step T H P g h copied → Places T g → Type 0
  Does {copied = copied} old (Frees seat free) new = Freeing copied old seat free new
  Does {copied = copied} old (Tries seal) new = Sealing copied old seal new
  Does {copied = copied} old (Asks call) new = Asking old call new
  Does {copied = copied} old Gives new = Giving old new

  -- the calls happen one after another
  abbrev pub Run : {copied : P → P} → Places T g → List (Step T H P g h copied) → Places T g → Type 0
  Run old [] new = new ≡ old
  Run old (step ∷ steps) new = (next : Places T g) × Does old step next × Run next steps new

  -- ---- what follows

  -- The call sealed this bucket: its pass made an advance in this call, whose number the goal has, with all these items in the bucket. That is two above a write sequence that was loaded in the call (`Advances`), and no hand is ever lowered, so each section that was entered before is before the goal.
  abbrev pub MakesGoal : {copied : P → P} → Step T H P g h copied → Loose T g → Goal → Type 0
  MakesGoal {copied = copied} (Frees seat free) loose goal = (sealed : Sealed T H P g h) × (sealed_goal sealed ≡ goal) × Seals copied free.v loose sealed free.v'
  MakesGoal {copied = copied} (Tries seal) loose goal = (sealed : Sealed T H P g h) × (sealed_goal sealed ≡ goal) × Seals copied seal.v loose sealed seal.v'
  MakesGoal (Asks call) loose goal = ⊥
  MakesGoal Gives loose goal = ⊥

  -- A free of the item is among these calls, and that very free or a call after it made the goal of this bucket.
  pub record GoalAfterFree {copied : P → P} (steps : List (Step T H P g h copied)) (item : Ticket) (bucket : Loose T g) (goal : Goal) : Type 0 where
    pub earlier : List (Step T H P g h copied)
    pub seat : ℕ
    pub free : SmrFree T H P g h copied
    pub later : List (Step T H P g h copied)
    pub split : steps ≡ earlier ++ Frees seat free ∷ later
    pub freed : live_ticket free.live ≡ item
    pub seal : Step T H P g h copied
    pub at_or_after : Contains (Frees seat free ∷ later) seal
    pub makes : MakesGoal seal bucket goal

  -- One of these requests found the item in a ripe bucket, whose goal is known to be expired, so that no section before it is open (`Ripened`). Before that request the goal was made, in a free of the item or after it.
  pub record Waited {copied : P → P} (steps : List (Step T H P g h copied)) (item : Ticket) : Type 0 where
    pub before : List (Step T H P g h copied)
    pub call : Call T H P g h
    pub behind : List (Step T H P g h copied)
    pub split : steps ≡ before ++ Asks call ∷ behind
    pub bucket : Ripened T H P g h
    pub found : call.brought ≡ FromRipe bucket
    pub has : Contains (loose_tickets (ripe_bucket bucket.ripe)) item
    pub goal : GoalAfterFree before item (ripe_bucket bucket.ripe) (ripe_goal bucket.ripe)

  -- one of these requests got the item from the keg, where it was given as a cached one
  abbrev pub IsFetched : {copied : P → P} → List (Step T H P g h copied) → Ticket → Type 0
  IsFetched steps item = (call : Call T H P g h) × Contains steps (Asks call) × Contains (keg_tickets call.brought) item

  -- one of these requests handed it out
  abbrev pub IsHanded : {copied : P → P} → List (Step T H P g h copied) → Ticket → Type 0
  IsHanded [] item = ⊥
  IsHanded (Frees seat free ∷ steps) item = IsHanded steps item
  IsHanded (Tries seal ∷ steps) item = IsHanded steps item
  IsHanded (Gives ∷ steps) item = IsHanded steps item
  IsHanded (Asks call ∷ steps) item = Contains call.handed item ⊎ IsHanded steps item

-- ---- the law

module _ {T H P : Type 0} {g h : _} where
  -- in the places the seat of this number stands as it is
  abbrev pub IsAt : Places T g → ℕ → SeatCache T H P g h → Type 0
  IsAt places number seat = (places.usable number ≡ usable_tickets seat) × (places.deferred number ≡ freed_of seat)

-- A call of `free_smr`, as its clause `defers` tells it, is a step, from wherever its seat stands.
abbrev pub FreesAreSteps : (T H P : Type 0) (g : Ghosts T) (h : HostGhosts H P) → Type 0
FreesAreSteps T H P g h =
    (copied : P → P) (places : Places T g) (number : ℕ) (live : Live T g) (old new : SeatCache T H P g h) (v v' : View P) → IsAt places number old → (defers : Defers copied v old live new v')
    → (next : Places T g) × Freeing copied places number (record { live = live; old = old; new = new; v = v; v' = v'; put = defers.put; full = defers.full }) next × IsAt next number new

-- So is a loose bucket's try that sealed it, as the law of the tries tells it.
abbrev pub TriesAreSteps : (T H P : Type 0) (g : Ghosts T) (h : HostGhosts H P) → Type 0
TriesAreSteps T H P g h =
    (copied : P → P) (clock : TableId × Setup) (places : Places T g) (before behind : List (Loose T g)) (sealed : Sealed T H P g h) → places.loose ≡ before ++ sealed_bucket sealed ∷ behind → (then : IsSealedThen copied clock sealed)
    → (next : Places T g) × Sealing copied places (record { loose = sealed_bucket sealed; sealed = sealed; v = then.before; v' = then.after; seals = then.seals }) next

-- So is a request, which balances as the law of the calls tells it, and keeps what is deferred, where its look took a bucket.
abbrev pub RequestsAreSteps : (T H P : Type 0) (g : Ghosts T) (h : HostGhosts H P) → Type 0
RequestsAreSteps T H P g h =
    (places : Places T g) (number : ℕ) (old new : SeatCache T H P g h) (brought : Brought T H P g h) (handed : List Ticket) (waiting : List (Waiting T g))
    → IsAt places number old → Balances (usable_tickets old) brought handed (usable_tickets new) → KeepsFreed old new → Takes places.waiting brought waiting
    → (next : Places T g) × Asking places (record { seat = number; brought = brought; handed = handed }) next × IsAt next number new

-- Over any calls from where a caller has the item on: where it is usable on a seat after them, or one of them handed it out, it waited, or came from the keg. Of an item that is freed more than once this is said from each of its frees on.
abbrev pub FreedWaitForLaterGoal : (T H P : Type 0) (g : Ghosts T) (h : HostGhosts H P) → Type 0
FreedWaitForLaterGoal T H P g h =
    (copied : P → P) (item : Ticket) (old new : Places T g) (steps : List (Step T H P g h copied)) → IsAway old item → Run old steps new
    → IsUsable new.usable item ⊎ IsHanded steps item → Waited steps item ⊎ IsFetched steps item

-- each call is such a step, and over any of them a freed item waits for a goal that is made in its own free or later
pub record WaitsForLaterGoal (T H P : Type 0) (g : Ghosts T) (h : HostGhosts H P) : Type 0 where
  pub frees : FreesAreSteps T H P g h
  pub tries : TriesAreSteps T H P g h
  pub requests : RequestsAreSteps T H P g h
  pub sequence : FreedWaitForLaterGoal T H P g h
