-- Own: what contracts see of a seat.
use Rattle.std.specs.Prelude.{◌≡◌, ◌≢◌, ◌<◌, ℕ, ◌==◌, ◌&&◌, ◌+◌, Bool, not, cond, List, [], ◌∷◌, ◌++◌, length, slice_set, Option, MatchOption}
use Rattle.std.specs.List.{All}
use Rattle.smr_clock.specs.declared.clock.Setup.{Setup}
use Rattle.smr_clock.specs.Belongs.{TableId}
use Rattle.deed_book.specs.declared.deed.Cause.{Cause}
use Rattle.deed_book.specs.declared.fail_book.FailShare.{FailShare}
use Rattle.zone_stats.specs.declared.ledger.SeatLedger.{SeatLedger}
use Rattle.zone_stats.specs.LedgerSteps.{IsNew}
use Rattle.uma_life.specs.declared.states.Cached.{Cached}
use Rattle.uma_life.specs.declared.states.Ticket.{Ticket}
use Rattle.uma_bucket.specs.declared.bucket.Bucket.{Bucket}
use Rattle.uma_life.specs.declared.states.Live.{Live}
use Rattle.uma_bucket.specs.declared.shelved.Shelved.{Shelved}
use Rattle.uma_bucket.specs.Bucket.{tickets_of}
use Rattle.uma_bucket.specs.Home.{Home}
use Rattle.uma_bucket.specs.declared.shelved.InboxKey.{InboxKey}
use Rattle.inbox.specs.declared.inbox.Port.{Port}
use Rattle.uma_seat.specs.declared.seating.Seating.{Seating}
use Rattle.uma_seat.specs.declared.counts.Counts.{Counts}
use Rattle.uma_seat.specs.declared.seat.SeatCache.{SeatCache}
use Rattle.uma_seat.specs.Stack.{Stack, stack_of, stack_at, empty_stack}
use Rattle.uma_seat.specs.Rack.{spares_in, shelf_in}
use Rattle.uma_seat.specs.Row.{stacks_of, freed_stacks, TakesAt}
use Rattle.uma_seat.specs.Counts.{ledger_in, fetches_in, fails_in}
use Rattle.uma_seat.specs.Seating.{home_of, clock_of}

module _ {T H P : Type 0} {g h : _} where
  -- ---- what it is made for

  abbrev pub seating_of : SeatCache T H P g h → Seating H P
  seating_of seat = seat.seating

  -- where its items are at home
  abbrev pub seat_home : SeatCache T H P g h → Home
  seat_home seat = home_of seat.seating

  abbrev pub seat_clock : SeatCache T H P g h → TableId × Setup
  seat_clock seat = clock_of seat.seating

  abbrev pub seat_domain : SeatCache T H P g h → ℕ
  seat_domain seat = seat.seating.domain

  abbrev pub seat_smr : SeatCache T H P g h → Bool
  seat_smr seat = seat.seating.smr

  -- for how many items a new spare has room
  abbrev pub seat_size : SeatCache T H P g h → ℕ
  seat_size seat = seat.size

  -- ---- its lists

  -- the allocation bucket
  abbrev pub top_bucket : SeatCache T H P g h → Bucket T g
  top_bucket seat = seat.top

  abbrev pub top_of : SeatCache T H P g h → Stack (Cached T g)
  top_of seat = stack_of seat.top

  abbrev pub top_tickets : SeatCache T H P g h → List Ticket
  top_tickets seat = tickets_of seat.top

  -- In a plain zone a bucket for each domain: that of the seat's own is the free bucket, the others are the cross buckets. In an SMR zone there are none.
  abbrev pub plain_of : SeatCache T H P g h → List (Stack (Cached T g))
  plain_of seat = stacks_of seat.plain

  -- In an SMR zone a bucket of freed items for each domain, likewise. In a plain zone there are none.
  abbrev pub freed_of : SeatCache T H P g h → List (Stack (Live T g))
  freed_of seat = freed_stacks seat.freed

  -- the bucket behind the allocation bucket
  abbrev pub free_bucket : SeatCache T H P g h → Stack (Cached T g)
  free_bucket seat = stack_at (plain_of seat) (seat_domain seat)

  -- The items that an allocation can have, the next at the end.
  abbrev pub usable_of : SeatCache T H P g h → List (Cached T g)
  usable_of seat = cond (seat_smr seat) [] (free_bucket seat).items ++ (top_of seat).items

  -- for each empty spare bucket how many items it has room for
  abbrev pub spares_of : SeatCache T H P g h → List ℕ
  spares_of seat = spares_in seat.rack

  -- the full buckets that haven't gone to the list of their domain, the oldest first
  abbrev pub shelf_of : SeatCache T H P g h → List (Shelved T H P g h)
  shelf_of seat = shelf_in seat.rack

  -- there is a place for one spare or shelved bucket more
  abbrev pub HasPlace : SeatCache T H P g h → Type 0
  HasPlace seat = length (spares_of seat) + length (shelf_of seat) < 2

  -- ---- what it counted

  abbrev pub counts_of : SeatCache T H P g h → Counts
  counts_of seat = seat.counts

  abbrev pub ledger_of : SeatCache T H P g h → SeatLedger
  ledger_of seat = ledger_in seat.counts

  -- its share of the zone's fail book: each fetch, by how it ended
  abbrev pub fetches_of : SeatCache T H P g h → List Cause
  fetches_of seat = fetches_in seat.counts

  -- the table of the zone's fail book
  abbrev pub seat_fails : SeatCache T H P g h → TableId
  seat_fails seat = fails_in seat.counts

  -- its share of its domain's book of misses
  abbrev pub misses_of : SeatCache T H P g h → FailShare
  misses_of seat = seat.misses

  -- its ports, one for each domain's inbox, in order
  abbrev pub ports_of : SeatCache T H P g h → List (Port (Shelved T H P g h) (InboxKey H P))
  ports_of seat = seat.ports.items

  -- ---- what stays

  -- made for the same
  abbrev pub IsSameSeat : SeatCache T H P g h → SeatCache T H P g h → Type 0
  IsSameSeat old new = (new.seating ≡ old.seating) × (new.size ≡ old.size)

  abbrev pub KeepsTop : SeatCache T H P g h → SeatCache T H P g h → Type 0
  KeepsTop old new = new.top ≡ old.top

  abbrev pub KeepsPlain : SeatCache T H P g h → SeatCache T H P g h → Type 0
  KeepsPlain old new = new.plain ≡ old.plain

  abbrev pub KeepsFreed : SeatCache T H P g h → SeatCache T H P g h → Type 0
  KeepsFreed old new = new.freed ≡ old.freed

  -- the spares and the shelf
  abbrev pub KeepsRack : SeatCache T H P g h → SeatCache T H P g h → Type 0
  KeepsRack old new = new.rack ≡ old.rack

  -- the ledger and the share of the fail book
  abbrev pub KeepsCounts : SeatCache T H P g h → SeatCache T H P g h → Type 0
  KeepsCounts old new = new.counts ≡ old.counts

  abbrev pub KeepsMisses : SeatCache T H P g h → SeatCache T H P g h → Type 0
  KeepsMisses old new = new.misses ≡ old.misses

  abbrev pub KeepsPorts : SeatCache T H P g h → SeatCache T H P g h → Type 0
  KeepsPorts old new = new.ports ≡ old.ports

  -- all its lists, the share of misses and the ports
  pub record KeepsLists (old new : SeatCache T H P g h) : Type 0 where
    pub same : IsSameSeat old new
    pub top : KeepsTop old new
    pub plain : KeepsPlain old new
    pub freed : KeepsFreed old new
    pub rack : KeepsRack old new
    pub misses : KeepsMisses old new
    pub ports : KeepsPorts old new

  -- ---- an allocation

  -- The allocation bucket is exchanged with the free bucket: in a plain zone, where it is empty.
  abbrev pub is_exchanged : SeatCache T H P g h → Bool
  is_exchanged seat = not (seat_smr seat) && (length (top_of seat).items == 0)

  -- the bucket that an allocation takes from
  abbrev pub top_ready : SeatCache T H P g h → Stack (Cached T g)
  top_ready seat = cond (is_exchanged seat) (free_bucket seat) (top_of seat)

  -- the buckets of the domains then
  abbrev pub plain_ready : SeatCache T H P g h → List (Stack (Cached T g))
  plain_ready seat = cond (is_exchanged seat) (slice_set (plain_of seat) (seat_domain seat) (empty_stack (top_of seat).room)) (plain_of seat)

  -- ---- cross items

  -- no bucket of another domain than the seat's has an item
  abbrev pub HasNoCross : SeatCache T H P g h → Type 0
  HasNoCross seat = (domain : ℕ) → domain < length (plain_of seat) → domain ≢ seat_domain seat → (stack_at (plain_of seat) domain).items ≡ []

  -- the item was on top of the bucket of another domain than the seat's
  pub record TakesCross (old : SeatCache T H P g h) (item : Cached T g) (new : SeatCache T H P g h) : Type 0 where
    pub domain : ℕ
    pub within : domain < length (plain_of old)
    pub other : domain ≢ seat_domain old
    pub takes : TakesAt (plain_of old) domain item (plain_of new)

  -- ---- a new seat

  -- All its buckets are empty, with room for so many; two of them are spares.
  pub record IsNewSeat (size : ℕ) (seating : Seating H P) (fails : TableId) (misses : FailShare) (seat : SeatCache T H P g h) : Type 0 where
    pub seated : seating_of seat ≡ seating
    pub size_kept : seat_size seat ≡ size
    pub top : top_of seat ≡ empty_stack size
    pub plain : All (λ stack. stack ≡ empty_stack size) (plain_of seat)
    pub plain_count : length (plain_of seat) ≡ cond seating.smr 0 seating.domains
    pub freed : All (λ stack. stack ≡ empty_stack size) (freed_of seat)
    pub freed_count : length (freed_of seat) ≡ cond seating.smr seating.domains 0
    pub spares : spares_of seat ≡ size ∷ size ∷ []
    pub shelf : shelf_of seat ≡ []
    pub ledger : IsNew (ledger_of seat)
    pub fetches : fetches_of seat ≡ []
    pub fails_kept : seat_fails seat ≡ fails
    pub misses_kept : misses_of seat ≡ misses

-- the last item is taken, if there is one
abbrev pub Pops : {A : Type 0} → Stack A → Option A → Stack A → Type 0
Pops old result new = (new.room ≡ old.room) × MatchOption result ((old.items ≡ []) × (new.items ≡ [])) (λ item. old.items ≡ new.items ++ item ∷ [])
