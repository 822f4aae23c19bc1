-- The report stands for the trace: what the totals of a report have to do with the lines of its trace, whatever the
-- workers' schedule was. It is counting over the trace and sums over the ledgers (own).
use Rattle.std.specs.Prelude.{ℕ, ◌≡◌, ◌+◌, ◌*◌, ◌%◌, ◌<◌, ◌≤◌, ◌==◌, List, [], ◌∷◌, length, map, reverse, Any, Contains, Option, Some, None, IsTrue, IsSome, IfSome, if◌then◌else◌, slice_get, slice_index_or}
use Rattle.zone_stats.specs.declared.ledger.SeatLedger.{SeatLedger}
use Rattle.zone_stats.specs.declared.refusal.Refusal.{Refusal}
use Rattle.zone_stats.specs.declared.refusal.Refusal.TheVariants.{AtLimit, Reserved, Full, Init, Ctor}
use Rattle.zone_stats.specs.declared.report.ClockLine.{ClockLine}
use Rattle.zone_stats.specs.declared.report.HookLine.{HookLine}
use Rattle.zone_stats.specs.declared.report.KegLine.{KegLine}
use Rattle.zone_stats.specs.declared.report.NamesLine.{NamesLine}
use Rattle.zone_stats.specs.declared.report.Report.{Report}
use Rattle.zone_stats.specs.declared.report.ZoneLine.{ZoneLine}
use Rattle.zone_stats.specs.Ledger.{LedgerLaw}
use Rattle.zone_stats.specs.Line.{zone_line, total_allocs, total_fails, total_frees}
use Rattle.trace_text.specs.declared.trace.ClockHead.{ClockHead}
use Rattle.trace_text.specs.declared.trace.NamesHead.{NamesHead}
use Rattle.trace_text.specs.declared.trace.ZoneHead.{ZoneHead}
use Rattle.trace_text.specs.declared.trace.Trace.{Trace}
use Rattle.trace_text.specs.Lines.{lines_of}
use Rattle.uma_life.specs.Trail.{ShowsSame}
use Rattle.replay_rounds.specs.Kegs.{per_slab, primaries, keg_place}
use Rattle.uma_replay.specs.Limits.{last_limit, limits_had}
use Rattle.uma_replay.specs.Counting.{report_zones, worker_ops, is_alloc_with, is_bind, is_unbind, is_look, kind_count, request_count, arg_count, free_count, enter_count}

-- A kept refusal names what its zone has: a limit that the zone had, with as many items outside the keg or more, its keg's
-- reserve and capacity, or a constructor's argument above 0 of the worker's requests. Only the names zone's entries are
-- ever refused by their init, with 255.
abbrev pub RefusalFits : Trace → ℕ → ℕ → ZoneHead → Refusal → Type 0
RefusalFits t w z head (AtLimit out limit) = (limit ≤ out) × (0 < limit) × Contains (limits_had (lines_of t.rounds) z head) limit
RefusalFits t w z head (Reserved free reserve) = (reserve ≡ head.reserve) × (0 < free) × (free ≤ reserve)
RefusalFits t w z head (Full slabs made) = slabs ≡ head.slabs
RefusalFits t w z head (Init code) = (code ≡ 255) × (z ≡ length t.head.zones)
RefusalFits t w z head (Ctor code) = (0 < code) × Any (λ op. IsTrue (is_alloc_with z code op)) (worker_ops t w)

-- the ledger of worker `w`'s seat in the zone at place `z`
pub record LedgerFits (t : Trace) (w z : ℕ) (head : ZoneHead) (l : SeatLedger) : Type 0 where
  -- each request of the trace ended
  pub requests : l.requests ≡ request_count t w z
  pub law : LedgerLaw l.requests l.allocs l.fails l.turned l.frees l.cross l.last
  -- only a request with an argument is refused by `ctor`, and each such request failed
  pub some_args : l.fails ≤ l.turned + arg_count t w z
  pub all_args : arg_count t w z ≤ l.fails
  pub kept : IfSome l.last (RefusalFits t w z head)

-- the ledgers of the zone at place `z`, from worker 0 on
abbrev pub ledgers_at : Report → ℕ → List SeatLedger
ledgers_at report z = slice_index_or report.ledgers z []

pub record ZoneLedgersFit (t : Trace) (z : ℕ) (head : ZoneHead) (ledgers : List SeatLedger) : Type 0 where
  pub workers : length ledgers ≡ t.head.workers
  pub each : (w : ℕ) → IfSome (slice_get ledgers w) (LedgerFits t w z head)

-- The free lines of the zone are the items that were freed and the slots whose request had been refused. So where
-- nothing failed, the frees are the trace's alone.
pub record FreesFit (t : Trace) (z : ℕ) (ledgers : List SeatLedger) : Type 0 where
  pub freed : total_frees ledgers ≤ free_count z (reverse (lines_of t.rounds))
  pub refused : free_count z (reverse (lines_of t.rounds)) ≤ total_frees ledgers + total_fails ledgers

-- The line is the sum of the ledgers, with this limit, some count of items that are out and one of items that are free in
-- the keg, which a secondary zone leaves to its primary one.
abbrev pub IsLineOf : ℕ → ZoneHead → List SeatLedger → ZoneLine → Type 0
IsLineOf limit head ledgers line = (out keg_free : ℕ) × (IsSome head.parent → keg_free ≡ 0)
    × (line ≡ zone_line head.name head.size limit ledgers out keg_free)

-- USED and FREE of the zones that share the keg of the zone at place `keg`, summed up; `z` is the place of the first
abbrev pub items_of_keg : ℕ → ℕ → List ZoneHead → List ZoneLine → ℕ
items_of_keg keg z (head ∷ heads) (line ∷ lines) =
    (if keg_place z head == keg then line.used + line.free else 0) + items_of_keg keg (z + 1) heads lines
items_of_keg keg z heads lines = 0

-- each item of the slabs of a keg that are in is used or free in one of its zones
abbrev pub KegAddsUp : Trace → Report → ℕ × ZoneHead → KegLine → Type 0
KegAddsUp t report (place, head) line = items_of_keg place 0 t.head.zones report.lines ≡ line.slabs * per_slab head

-- each item that is used, or whose free is deferred, passed a ctor more than dtors, as counters of 64 bits show it
abbrev pub UsesAreBuilt : ZoneLine → HookLine → Type 0
UsesAreBuilt line hooks = ShowsSame hooks.ctors (hooks.dtors + line.used + hooks.deferred)

-- The clock's line: its sequences, and how the entries into sections ended.
pub record ClockStands (t : Trace) (c : ClockHead) (line : ClockLine) : Type 0 where
  -- the sequences are odd, as the trace's START is, from START on, and at most WINDOW apart
  pub read_odd : line.read % 2 ≡ 1
  pub write_odd : line.write % 2 ≡ 1
  pub start : c.start ≤ line.read
  pub in_order : line.read ≤ line.write
  pub within : line.write ≤ line.read + c.window
  -- each line that wants a section got one or came too late; where none was too late, the sections are the trace's alone
  pub entries : enter_count (reverse (lines_of t.rounds)) ≤ line.entered + line.late
  pub in_time : line.late ≡ 0 → line.entered ≡ enter_count (reverse (lines_of t.rounds))
  -- none is too late before the write sequence is WINDOW above START
  pub never_late : line.write < c.start + c.window → line.late ≡ 0

-- a trace with a clock has its line in the report, and one without has none
abbrev pub ClockLineFits : Trace → Option ClockHead → Option ClockLine → Type 0
ClockLineFits t (Some c) (Some line) = ClockStands t c line
ClockLineFits t (Some c) None = ⊥
ClockLineFits t None (Some line) = ⊥
ClockLineFits t None None = Unit {0}

-- Each entry that is deferred, or linked in a row, passed a ctor more than dtors, as counters of 64 bits show it. A row links one at most.
pub record LinksFew (rows : ℕ) (hooks : HookLine) : Type 0 where
  pub linked : ℕ
  pub few : linked ≤ rows
  pub built : ShowsSame hooks.ctors (hooks.dtors + hooks.deferred + linked)

-- The names line: how the lines of names ended, and what the zone of their entries, the last one, counted.
pub record NamesLineStands (t : Trace) (report : Report) (n : NamesHead) (line : NamesLine) : Type 0 where
  -- each look found a value, or none, or came too late
  pub looks : line.looks ≡ kind_count is_look t
  pub answered : line.looks ≡ line.hits + line.misses + line.late
  -- no look is too late whose section isn't
  pub late : IfSome report.clock (λ clock. line.late ≤ clock.late)
  -- each bind bound its key or was refused, and only an unbind takes a key out
  pub binds : line.binds + line.refused ≡ kind_count is_bind t
  pub unbound : line.unbound ≤ kind_count is_unbind t
  -- where an entry was refused so was the bind, and a key is bound by an entry
  pub refused : total_fails (ledgers_at report (length t.head.zones)) ≤ line.refused
  pub by_entries : line.binds ≤ total_allocs (ledgers_at report (length t.head.zones))
  pub linked : IfSome (slice_get report.hooks (length t.head.zones)) (LinksFew n.rows)

-- a trace with names has their line in the report, and one without has none
abbrev pub NamesLineFits : Trace → Report → Option NamesHead → Option NamesLine → Type 0
NamesLineFits t report (Some n) (Some line) = NamesLineStands t report n line
NamesLineFits t report (Some n) None = ⊥
NamesLineFits t report None (Some line) = ⊥
NamesLineFits t report None None = Unit {0}

-- the name and size of a line
abbrev pub line_title : ZoneLine → List ℕ × ℕ
line_title line = (line.name, line.size)

abbrev pub head_title : ZoneHead → List ℕ × ℕ
head_title head = (head.name, head.size)

pub record StandsFor (t : Trace) (report : Report) : Type 0 where
  -- the zones stand in the trace's order with its names and sizes, the names zone last
  pub zones : map line_title report.lines ≡ map head_title (report_zones t.head)
  -- a zone's limit is that of the last `setmax` line that names it, else that of its header line
  pub limits : (z : ℕ) → IfSome (slice_get (report_zones t.head) z) (λ head. IfSome (slice_get report.lines z) (λ line. line.limit ≡ last_limit (lines_of t.rounds) z head))
  -- each zone has its workers' ledgers, and they count the trace's requests
  pub ledger_count : length report.ledgers ≡ length (report_zones t.head)
  pub ledgers : (z : ℕ) → IfSome (slice_get (report_zones t.head) z) (λ head. ZoneLedgersFit t z head (ledgers_at report z))
  -- the frees are those of the trace, but for slots whose request was refused; the names zone's aren't counted so
  pub frees : (z : ℕ) → z < length t.head.zones → FreesFit t z (ledgers_at report z)
  -- each line is the sum of the ledgers
  pub lines : (z : ℕ) → IfSome (slice_get (report_zones t.head) z) (λ head. IfSome (slice_get report.lines z) (IsLineOf (last_limit (lines_of t.rounds) z head) head (ledgers_at report z)))
  -- a hooks line a zone, and a keg line a primary zone, with their names
  pub hook_names : map (λ line. line.name) report.hooks ≡ map (λ head. head.name) (report_zones t.head)
  pub keg_names : map (λ line. line.name) report.kegs ≡ map (λ (place, head). head.name) (primaries (report_zones t.head) 0)
  pub detail : report.detail ≡ t.head.detail
  -- the items of each keg are used or free; of the names zone's this isn't said
  pub kegs : (k : ℕ) → IfSome (slice_get (primaries t.head.zones 0) k) (λ primary. IfSome (slice_get report.kegs k) (KegAddsUp t report primary))
  -- ctors and dtors come in pairs, but for the items that are used or deferred; of the names zone's this isn't said
  pub uses : (z : ℕ) → z < length t.head.zones → IfSome (slice_get report.lines z) (λ line. IfSome (slice_get report.hooks z) (UsesAreBuilt line))
  -- the clock's line, where the trace has a clock
  pub clock : ClockLineFits t t.head.clock report.clock
  -- the names line, where the trace has names
  pub names : NamesLineFits t report t.head.names report.names
