-- The headline, of what a replay leaves behind (own):
--
-- Over every interleaving of the atomic steps, no item freed by an SMR free is destroyed or handed out while a section entered before that free is open; each item passes init, ctor and dtor in pairs, and fini, in order; a request is refused only at the limit its own step found, by a hook, or for memory; the printed totals are the sums of the seats' ledgers.
--
-- `Headline`, at the end, has a field for each clause. They speak of steps: a step is one line that a worker did, whatever the threads of the others did meanwhile (`AreRounds`). At the worker's seat of a zone a step is a `SeatLine`: the call that it made of the seat, with the seat before and after it.
--
-- What else is cited by name: `AreZones`, `IsBeginner` and `DoBetweens`, how the zones and the workers began, and the `give` and `setmax` lines (replay_rounds); `DoesLine`, all that a line does, sections and looks too, of which `Requests`, `GivesBack`, `IsFlushed` and `IsDrained` are what it does to a seat, and `NameCalls`, the words of who keeps the names, in the program `CacheNames` (replay_worker); `AreReused`, `IsOneFetch` and `AllocIsRefused` of the zones (uma_zone); `after` and `IsAt`, the hooks of an item (uma_life). For want of memory a replay ends without a report, so nothing is said here of that.
use Rattle.std.specs.Prelude.{◌≡◌, ◌⊎◌, ◌<◌, ℕ, All, Bool, true, false, List, [], ◌∷◌, ◌++◌, Some, None, count_by, is_some, length, map, slice_get}
use Rattle.smr_clock.specs.declared.host.Host.{Ghosts}
use Rattle.trace_text.specs.declared.trace.Trace.{Trace}
use Rattle.uma_life.specs.declared.states.Ticket.{Ticket}
use Rattle.uma_life.specs.Cached.{cached_body, cached_ticket, cached_zone}
use Rattle.uma_life.specs.Hook.{Ctor, Dtor, after, base_phase}
use Rattle.uma_life.specs.declared.tally.BodyPhase.TheVariants.{Built}
use Rattle.uma_life.specs.Live.{live_body, live_ticket, live_zone}
use Rattle.uma_life.specs.Trail.{IsAt}
use Rattle.uma_seat.specs.Seat.{usable_of, ledger_of}
use Rattle.uma_zone.specs.declared.zone.alloc.AllocAsk.{AllocAsk}
use Rattle.uma_zone.specs.declared.zone.alloc.AllocRefused.TheVariants.{Refused}
use Rattle.uma_zone.specs.Alloc.{AreReused, IsOneFetch, AllocIsRefused}
use Rattle.uma_zone.specs.SafeReuse.{usable_tickets}
use Rattle.uma_zone.specs.Zone.{zone_index, zone_smr}
use Rattle.zone_stats.specs.declared.ledger.SeatLedger.{SeatLedger}
use Rattle.zone_stats.specs.declared.refusal.Refusal.{Refusal}
use Rattle.zone_stats.specs.declared.report.Report.{Report}
use Rattle.zone_stats.specs.declared.report.ZoneLine.{ZoneLine}
use Rattle.zone_stats.specs.Line.{total_allocs, total_cross, total_fails, used_items}
use Rattle.replay_worker.specs.declared.worker.Held.{Held}
use Rattle.replay_worker.specs.declared.name_calls.NameCalls.{Ghosts as NameGhosts}
use Rattle.replay_worker.specs.declared.name_work.NameWork.{NameWork}
use Rattle.replay_worker.specs.declared.worker.Worker.{Worker}
use Rattle.replay_worker.specs.Items.{CachedItem, CountedSeat, CountedZone, counted_life}
use Rattle.replay_worker.specs.Slots.{slot_at}
use Rattle.replay_rounds.specs.Zones.{AreZones}
use Rattle.uma_replay.specs.declared.hall.Hall.{Hall}
use Rattle.uma_replay.specs.Names.{AreNameLedgers}
use Rattle.uma_replay.specs.Playing.{HavePlayed}
use Rattle.uma_replay.specs.Reporting.{AreLedgersOf}
use Rattle.uma_replay.specs.NameLines.{AreNameLines, NameLine}
use Rattle.uma_replay.specs.SeatLines.{SeatCall, Request, Return, Empty, SeatLine, AreLines, got_none}
use Rattle.uma_replay.specs.Steps.{AreAmong, AreRounds, Step, steps_of}

-- ---- the seats

-- a worker's seat of a zone, by the numbers of both
pub record SeatIn {N H C S P : Type 0} {h : Ghosts H P} (hall : Hall N H C S P h) : Type 0 where
  pub number : ℕ
  pub place : ℕ
  pub worker : Worker H P h
  pub zone : CountedZone H P h
  pub seat : CountedSeat H P h
  pub is_worker : slice_get hall.workers number ≡ Some worker
  pub is_zone : slice_get hall.zones place ≡ Some zone
  pub is_seat : slice_get worker.seats.items place ≡ Some seat

-- ---- "no item freed by an SMR free is destroyed or handed out while a section entered before that free is open"

module _ {H P : Type 0} {h : Ghosts H P} where
  -- the items that a call handed out, or gave from the seat to the keg
  abbrev pub gone_by : SeatCall → CountedSeat H P h → List Ticket
  gone_by (Request ask (Some item)) old = live_ticket item ∷ []
  gone_by Empty old = usable_tickets old
  gone_by call old = []

  -- They are those of a bucket that waited until a poll said yes: a note of the zone's clock knows that its goal is expired, and from then on no section that was entered before that goal is open. That the goal was made no earlier than the free of any of them is a law of uma_zone (`freed_items_wait`: `goals`).
  pub record ComeRipe (zone : CountedZone H P h) (brought : List Ticket) : Type 0 where
    pub items : List CachedItem
    pub are : brought ≡ map cached_ticket items
    pub reused : AreReused zone items

  -- they are those of the line's one fetch from the keg
  pub record ComeFromKeg (zone : CountedZone H P h) (brought : List Ticket) (new : CountedSeat H P h) : Type 0 where
    pub items : List CachedItem
    pub are : brought ≡ map cached_ticket items
    pub right : Bool
    pub one : IsOneFetch zone right items new

module _ {N H C S P : Type 0} {h : Ghosts H P} where
  -- what a line brings to the seat is nothing, or comes in one of these ways
  abbrev pub Comes : CountedZone H P h → SeatLine N H C S P h → Type 0
  Comes zone line = (line.brought ≡ []) ⊎ ComeRipe zone line.brought ⊎ ComeFromKeg zone line.brought line.new

  abbrev pub gone : SeatLine N H C S P h → List Ticket
  gone line = gone_by line.call line.old

  -- what was usable and what came is what is usable now and what is gone, so an SMR free brings nothing
  abbrev pub Balances : SeatLine N H C S P h → Type 0
  Balances line = usable_tickets line.new ++ gone line ≡ usable_tickets line.old ++ line.brought

  -- What the lines hand out or give to the keg is among what they brought, each item as often at most. (Into the keg goes an item that is cached, and a freed one becomes that only where its bucket is ripe: so say the types of buckets, also of those that reclaim takes from the zone's lists.)
  pub record WaitForReaders (zone : CountedZone H P h) (lines : List (SeatLine N H C S P h)) : Type 0 where
    pub come : All (Comes zone) lines
    pub balance : All Balances lines
    pub among : AreAmong gone (λ (line : SeatLine N H C S P h). line.brought) lines

-- ---- "each item passes init, ctor and dtor in pairs, and fini, in order"

module _ {H P : Type 0} {h : Ghosts H P} where
  -- What a request got passed the zone's `ctor` in it, and in a plain zone what was freed passed `dtor` in that line. In an SMR zone it stays built until its bucket is ripe, and passes `dtor` then (`AreReused`).
  abbrev pub PassesHooks : CountedZone H P h → SeatCall → Type 0
  PassesHooks zone (Request ask (Some item)) =
      (was : CachedItem) × (live_ticket item ≡ cached_ticket was) × (counted_life (live_body item) ≡ after (Ctor (zone_index zone)) (counted_life (cached_body was)))
  PassesHooks zone (Return item) =
      zone_smr zone ≡ false → (is : CachedItem) × (cached_ticket is ≡ live_ticket item) × (counted_life (cached_body is) ≡ after (Dtor (live_zone item)) (counted_life (live_body item)))
  PassesHooks zone call = Unit {0}

  -- The live items in slots and the usable ones in seats passed their hooks as often, and in the order, that the trail of an item says. Of an item elsewhere its type says the same.
  pub record AreOnTrail (w : Worker H P h) : Type 0 where
    pub live : (slot : ℕ) (it : Held) → slot_at w.slots slot ≡ Some it → IsAt (Built (live_zone it.item)) (counted_life (live_body it.item))
    pub usable : (z : ℕ) (seat : CountedSeat H P h) → slice_get w.seats.items z ≡ Some seat → All (λ (item : CachedItem). IsAt (base_phase (cached_zone item)) (counted_life (cached_body item))) (usable_of seat)

-- ---- "a request is refused only at the limit its own step found, by a hook, or for memory"

module _ {N H C S P : Type 0} {h : Ghosts H P} where
  -- A request that got no item was refused by `ctor`, with its code for this argument, or by its one fetch: at the limit, the reserve or the capacity that this fetch found, or by `init` with its code.
  abbrev pub HasCause : CountedZone H P h → SeatLine N H C S P h → Type 0
  HasCause zone line = (ask : AllocAsk) → line.call ≡ Request ask None → (refusal : Refusal) × AllocIsRefused zone ask line.old line.new (Refused refusal)

  abbrev pub is_refused : SeatLine N H C S P h → Bool
  is_refused line = got_none line.call

  -- and the fails in the seat's ledger are just these
  pub record AreForCause (zone : CountedZone H P h) (lines : List (SeatLine N H C S P h)) (seat : CountedSeat H P h) : Type 0 where
    pub causes : All (HasCause zone) lines
    pub fails : (ledger_of seat).fails ≡ count_by is_refused lines

-- ---- "the printed totals are the sums of the seats' ledgers"

-- USED, REQ, FAIL and XDOMAIN of a zone's line are the sums of these ledgers
pub record AreTotals (ledgers : List SeatLedger) (line : ZoneLine) : Type 0 where
  pub used : line.used ≡ used_items ledgers
  pub req : line.req ≡ total_allocs ledgers
  pub fail : line.fail ≡ total_fails ledgers
  pub xdomain : line.xdomain ≡ total_cross ledgers

-- at this place the report has a line, with the totals of the ledgers that are so
abbrev pub HasTotals : Report → ℕ → (List SeatLedger → Type 0) → Type 0
HasTotals report place Are = (line : ZoneLine) × (slice_get report.lines place ≡ Some line) × ((ledgers : List SeatLedger) × Are ledgers × AreTotals ledgers line)

-- ---- the headline

module _ {N H C S P : Type 0} {h : Ghosts H P} (names : NameGhosts N H C S P) where
  pub record Headline (t : Trace) (report : Report) (hall : Hall N H C S P h) : Type 0 where
    -- the zones are those of the trace's head, by the hall's clock, and the workers are as many
    pub zones : AreZones t.head hall.clock hall.zones
    pub workers : length hall.workers ≡ t.head.workers
    -- the rounds, from workers that began new, with empty slots and unused seats, to those of the hall; what each worker did in each; and what that was at each seat
    pub played : HavePlayed names hall.names t hall.zones hall.clock hall.workers hall.name_works
    pub rounds : List (ℕ → List (Step N H C S P h))
    pub steps : AreRounds names hall.names hall.zones t.rounds played.begun rounds played.ended
    pub lines : SeatIn hall → List (SeatLine N H C S P h)
    pub are_lines : (s : SeatIn hall) → AreLines s.zone s.place (steps_of s.number rounds) (lines s)
    -- "no item freed by an SMR free is destroyed or handed out while a section entered before that free is open"
    pub safe : (s : SeatIn hall) → zone_smr s.zone ≡ true → WaitForReaders s.zone (lines s)
    -- "each item passes init, ctor and dtor in pairs, and fini, in order"
    pub hooks : (s : SeatIn hall) → All (λ (line : SeatLine N H C S P h). PassesHooks s.zone line.call) (lines s)
    pub trails : (n : ℕ) (w : Worker H P h) → slice_get hall.workers n ≡ Some w → AreOnTrail w
    -- "a request is refused only at the limit its own step found, by a hook, or for memory"
    pub refusals : (s : SeatIn hall) → AreForCause s.zone (lines s) s.seat
    -- "the printed totals are the sums of the seats' ledgers": of each zone's line, and of the line of the names' zone behind them
    pub totals : (z : ℕ) → z < length t.head.zones → HasTotals report z (λ (ledgers : List SeatLedger). AreLedgersOf z hall.workers ledgers)
    pub name_totals : is_some t.head.names ≡ true → HasTotals report (length t.head.zones) (λ (ledgers : List SeatLedger). AreNameLedgers names hall.name_works ledgers)
    -- and of names: a look that found a value came to know, in that very step, a record that binds its key to it; a bind is refused an entry only for cause; and entries wait for readers as items do
    pub lookups : (n : ℕ) (name_work : NameWork N H C S P) → slice_get hall.name_works n ≡ Some name_work → (lines : List (NameLine N H C S P h)) × AreNameLines names hall.names (steps_of n rounds) lines name_work
