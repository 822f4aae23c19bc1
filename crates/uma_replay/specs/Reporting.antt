-- What a report is made of (own): its lines of the ledgers, of the kegs' censuses and of the sums of the hooks.
use Rattle.std.specs.Option.{option_map_or}
use Rattle.std.specs.Prelude.{ℕ, ◌≡◌, ◌<◌, ◌^◌, Bool, List, Some, None, cond, count_by, is_none, is_some, length, map, option_map, slice_get, take}
use Rattle.std.specs.List.{sum_by}
use Rattle.smr_clock.specs.declared.host.Host.{Ghosts}
use Rattle.trace_text.specs.declared.trace.ClockHead.{ClockHead}
use Rattle.trace_text.specs.declared.trace.ZoneHead.{ZoneHead}
use Rattle.trace_text.specs.declared.trace.Trace.{Trace}
use Rattle.trace_text.specs.Lines.{lines_of}
use Rattle.uma_keg.specs.declared.census.Census.{Census}
use Rattle.uma_keg.specs.Census.{census_counts, census_out, census_outs}
use Rattle.uma_life.specs.declared.tally.TallySum.{TallySum}
use Rattle.uma_life.specs.Hook.{KegInit, ZoneInit, Ctor, Dtor, ZoneFini, KegFini}
use Rattle.uma_life.specs.Sum.{sum_of}
use Rattle.zone_stats.specs.declared.ledger.SeatLedger.{SeatLedger}
use Rattle.zone_stats.specs.declared.name.ZoneName.{ZoneName}
use Rattle.zone_stats.specs.declared.report.ClockLine.{ClockLine}
use Rattle.zone_stats.specs.declared.report.HookLine.{HookLine}
use Rattle.zone_stats.specs.declared.report.KegLine.{KegLine}
use Rattle.zone_stats.specs.declared.report.Report.{Report}
use Rattle.zone_stats.specs.declared.report.ZoneLine.{ZoneLine}
use Rattle.zone_stats.specs.Line.{zone_line}
use Rattle.replay_rounds.specs.Kegs.{keg_place, index_of, primaries}
use Rattle.replay_worker.specs.declared.worker.Worker.{Worker}
use Rattle.replay_worker.specs.Together.{ledger_at}
use Rattle.uma_replay.specs.Limits.{KeepLimits, last_limit}

-- it has a keg of its own
abbrev pub is_primary : ZoneHead → Bool
is_primary head = is_none head.parent

-- the number of the keg whose primary zone stands at place `p`: so many kegs stand before it
abbrev pub keg_number : List ZoneHead → ℕ → ℕ
keg_number heads p = count_by is_primary (take p heads)

module _ {H P : Type 0} {h : Ghosts H P} where
  -- how many zones worker 0 has a seat of
  abbrev pub zone_count : List (Worker H P h) → ℕ
  zone_count workers = option_map_or (λ (w : Worker H P h). length w.seats.items) (slice_get workers 0) 0

  -- The ledgers of one zone's seats, from worker 0 on.
  abbrev pub AreLedgersOf : ℕ → List (Worker H P h) → List SeatLedger → Type 0
  AreLedgersOf z workers ledgers = map (ledger_at z) workers ≡ map Some ledgers

  -- For each of so many zones, in order, the ledgers of its seats.
  pub record AreLedgers (zones : ℕ) (workers : List (Worker H P h)) (ledgers : List (List SeatLedger)) : Type 0 where
    pub count : length ledgers ≡ zones
    pub each : (z : ℕ) (own : List SeatLedger) → slice_get ledgers z ≡ Some own → AreLedgersOf z workers own

-- what a zone's line shows of the items that are free in the keg: a secondary zone leaves them to its primary one
abbrev pub shown_free : ZoneHead → Census → ℕ
shown_free head census = cond (is_some head.parent) 0 (census_counts census).free

-- the line of a zone, by its limit at the end, its number in its keg, its ledgers and its keg's census
abbrev pub line_by : ZoneHead → ℕ → ℕ → List SeatLedger → Census → ZoneLine
line_by head limit index ledgers census = zone_line head.name head.size limit ledgers (census_out census index) (shown_free head census)

-- the line of the zone at place `z`
abbrev pub line_of : List ZoneHead → ℕ → ZoneHead → ℕ → List SeatLedger → Census → ZoneLine
line_of heads z head limit ledgers census = line_by head limit (index_of heads z head) ledgers census

-- the hooks line of a zone, by its name, its number in its keg, the keg's sums and its count of deferred items
abbrev pub hook_line : ZoneName → ℕ → TallySum → ℕ → HookLine
hook_line name index sums deferred = record {
  name = name;
  inits = sum_of sums (ZoneInit index);
  ctors = sum_of sums (Ctor index);
  dtors = sum_of sums (Dtor index);
  finis = sum_of sums (ZoneFini index);
  deferred = deferred;
}

-- the line of a keg, by its primary zone's name, what its census counted, and its sums
abbrev pub keg_line : ZoneName → Census → TallySum → KegLine
keg_line name census sums = record {
  name = name;
  slabs = (census_counts census).slabs;
  free = (census_counts census).free;
  inits = sum_of sums KegInit;
  finis = sum_of sums KegFini;
}

module _ {H P : Type 0} {h : Ghosts H P} where
  -- the clock's line, by its sequences and what the workers counted
  abbrev pub clock_line : ℕ → ℕ → List (Worker H P h) → ClockLine
  clock_line read write workers = record { read = read; write = write; entered = sum_by (λ w. w.entered) workers; late = sum_by (λ w. w.late) workers }

-- the line of the zone at place `z`, by what limit each zone has at the end, its ledgers and its keg's census
abbrev pub IsLineAt : List ZoneHead → (ℕ → ZoneHead → ℕ) → List (List SeatLedger) → List Census → ℕ → ZoneLine → Type 0
IsLineAt heads limit_at ledgers censuses z line = (head : ZoneHead) (own : List SeatLedger) (census : Census) → slice_get heads z ≡ Some head → slice_get ledgers z ≡ Some own
    → slice_get censuses (keg_number heads (keg_place z head)) ≡ Some census → line ≡ line_of heads z head (limit_at z head) own census

-- one a zone
pub record AreLines (heads : List ZoneHead) (limit_at : ℕ → ZoneHead → ℕ) (ledgers : List (List SeatLedger)) (censuses : List Census) (lines : List ZoneLine) : Type 0 where
  pub count : length lines ≡ length heads
  pub each : (z : ℕ) (line : ZoneLine) → slice_get lines z ≡ Some line → IsLineAt heads limit_at ledgers censuses z line

-- the hooks line of the zone at place `z`, by its keg's sums and so many deferred items
abbrev pub IsHookWith : List ZoneHead → List TallySum → ℕ → ℕ → HookLine → Type 0
IsHookWith heads tallies z waiting line = (head : ZoneHead) (tally : TallySum) → slice_get heads z ≡ Some head → slice_get tallies (keg_number heads (keg_place z head)) ≡ Some tally
    → line ≡ hook_line head.name (index_of heads z head) tally waiting

-- the same, by the zone's count of deferred items
abbrev pub IsHookAt : List ZoneHead → List TallySum → List ℕ → ℕ → HookLine → Type 0
IsHookAt heads tallies deferred z line = (waiting : ℕ) → slice_get deferred z ≡ Some waiting → IsHookWith heads tallies z waiting line

-- one a zone
pub record AreHooks (heads : List ZoneHead) (tallies : List TallySum) (deferred : List ℕ) (hooks : List HookLine) : Type 0 where
  pub count : length hooks ≡ length heads
  pub each : (z : ℕ) (line : HookLine) → slice_get hooks z ≡ Some line → IsHookAt heads tallies deferred z line

-- the line of keg `k`, by its census, which counts what is out in eight zones, and its sums
pub record IsKegAt (heads : List ZoneHead) (censuses : List Census) (tallies : List TallySum) (k : ℕ) (line : KegLine) : Type 0 where
  pub is : (p : ℕ) (head : ZoneHead) (census : Census) (tally : TallySum) → slice_get (primaries heads 0) k ≡ Some (p, head) → slice_get censuses k ≡ Some census
      → slice_get tallies k ≡ Some tally → line ≡ keg_line head.name census tally
  pub eight : (census : Census) → slice_get censuses k ≡ Some census → length (census_outs census) ≡ 8

-- one a keg
pub record AreKegs (heads : List ZoneHead) (censuses : List Census) (tallies : List TallySum) (kegs : List KegLine) : Type 0 where
  pub count : length kegs ≡ length (primaries heads 0)
  pub each : (k : ℕ) (line : KegLine) → slice_get kegs k ≡ Some line → IsKegAt heads censuses tallies k line

-- one for each keg of the zones before place `z`
pub record AreKegsTo (heads : List ZoneHead) (censuses : List Census) (tallies : List TallySum) (z : ℕ) (kegs : List KegLine) : Type 0 where
  pub count : length kegs ≡ keg_number heads z
  pub each : (k : ℕ) (line : KegLine) → slice_get kegs k ≡ Some line → IsKegAt heads censuses tallies k line

-- Each zone has a keg of the first so many, and a number below 8 in it.
pub record HasKeg (heads : List ZoneHead) (kegs z : ℕ) (head : ZoneHead) : Type 0 where
  pub place : keg_place z head < length heads
  pub number : keg_number heads (keg_place z head) < kegs
  pub index : index_of heads z head < 8

abbrev pub HaveKegs : List ZoneHead → ℕ → Type 0
HaveKegs heads kegs = (z : ℕ) (head : ZoneHead) → slice_get heads z ≡ Some head → HasKeg heads kegs z head

-- each zone has a keg of these censuses, and a list of ledgers
pub record LinesFit (heads : List ZoneHead) (ledger_count : ℕ) (censuses : List Census) : Type 0 where
  pub kegs : HaveKegs heads (length censuses)
  pub ledgers : ledger_count ≡ length heads

-- there is a census and a sum of hooks for each keg
pub record KegsFit (heads : List ZoneHead) (counted : List Census) (summed : List TallySum) : Type 0 where
  pub censuses : length counted ≡ length (primaries heads 0)
  pub tallies : length summed ≡ length (primaries heads 0)

module _ {H P : Type 0} {h : Ghosts H P} where
  -- all workers' counts of sections, taken together, are those of a report
  pub record SectionsFit (workers : List (Worker H P h)) : Type 0 where
    pub entered : sum_by (λ (w : Worker H P h). w.entered) workers < 2 ^ 64
    pub late : sum_by (λ (w : Worker H P h). w.late) workers < 2 ^ 64

  -- What a report is made of: a keg for each zone, a census and a sum of hooks for each keg, a count of deferred items for each zone, and workers with a seat of each zone.
  pub record CanReport (t : Trace) (workers : List (Worker H P h)) (counted : List Census) (summed : List TallySum) (waiting : List ℕ) : Type 0 where
    pub kegs : HaveKegs t.head.zones (length (primaries t.head.zones 0))
    pub each : KegsFit t.head.zones counted summed
    pub deferred : length waiting ≡ length t.head.zones
    pub seats : (n : ℕ) (w : Worker H P h) → slice_get workers n ≡ Some w → length w.seats.items ≡ length t.head.zones
    pub sections : SectionsFit workers

  -- The report of these workers, censuses, sums, counts of deferred items and hands.
  pub record IsReportOf (t : Trace) (workers : List (Worker H P h)) (censuses : List Census) (tallies : List TallySum) (deferred : List ℕ) (read write gave_up : ℕ) (report : Report) : Type 0 where
    pub ledgers : AreLedgers (length t.head.zones) workers report.ledgers
    -- a refusal by a limit that a ledger keeps is by one that its zone had
    pub limits : KeepLimits (lines_of t.rounds) t.head.zones report.ledgers
    pub lines : AreLines t.head.zones (last_limit (lines_of t.rounds)) report.ledgers censuses report.lines
    pub hooks : AreHooks t.head.zones tallies deferred report.hooks
    pub kegs : AreKegs t.head.zones censuses tallies report.kegs
    pub clock : report.clock ≡ option_map (λ (c : ClockHead). clock_line read write workers) t.head.clock
    pub names : report.names ≡ None
    pub detail : report.detail ≡ t.head.detail
    pub waits : report.gave_up ≡ gave_up
