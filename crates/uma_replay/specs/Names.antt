-- What a report has of the zone of the names, and what it is made of (own).
use Rattle.std.specs.Prelude.{◌≡◌, ◌≤◌, ◌<◌, ◌+◌, ◌*◌, ◌^◌, ℕ, All, Bool, true, false, List, [], ◌∷◌, ◌++◌, Option, Some, None, is_some, length, map, slice_get, take}
use Rattle.std.specs.List.{sum_by}
use Rattle.std.specs.Option.{option_map_or}
use Rattle.smr_clock.specs.declared.host.Host.{Ghosts}
use Rattle.trace_text.specs.declared.trace.NamesHead.{NamesHead}
use Rattle.uma_bucket.specs.declared.shelved.Sums.{Sums}
use Rattle.uma_bucket.specs.Sums.{AreOfAtMost, Balance}
use Rattle.uma_keg.specs.declared.census.Census.{Census}
use Rattle.uma_keg.specs.Census.{census_counts, census_tally}
use Rattle.uma_life.specs.declared.tally.TallySum.{TallySum}
use Rattle.uma_life.specs.Hook.{Hook, Ctor, Dtor}
use Rattle.uma_life.specs.Sum.{sum_of}
use Rattle.uma_life.specs.Trail.{ShowsSame}
use Rattle.zone_stats.specs.declared.ledger.SeatLedger.{SeatLedger}
use Rattle.zone_stats.specs.declared.report.NamesLine.{NamesLine}
use Rattle.zone_stats.specs.declared.report.Report.{Report}
use Rattle.replay_worker.specs.declared.name_calls.NameCalls.{Ghosts as NameGhosts}
use Rattle.replay_worker.specs.declared.name_work.NameCounts.{NameCounts}
use Rattle.replay_worker.specs.declared.name_work.NameWork.{NameWork}
use Rattle.replay_worker.specs.declared.worker.Worker.{Worker}
use Rattle.replay_worker.specs.NameSums.{HasLinked}
use Rattle.uma_replay.specs.declared.names.NameCount.{NameCount}
use Rattle.uma_replay.specs.declared.names.NameCount.TheVariants.{Hits, Misses, Late, Binds, Unbound, Refused}
use Rattle.uma_replay.specs.declared.names.NamesPart.{NamesPart}
use Rattle.uma_replay.specs.Counting.{entry_zone}
use Rattle.uma_replay.specs.Limits.{KeepSomeOf}
use Rattle.uma_replay.specs.Reporting.{AreLedgers, hook_line, keg_line, line_by}

-- what a worker counted of it
abbrev pub count_of : NameCount → NameCounts → ℕ
count_of Hits counts = counts.hits
count_of Misses counts = counts.misses
count_of Late counts = counts.late
count_of Binds counts = counts.binds
count_of Unbound counts = counts.unbound
count_of Refused counts = counts.refused

module _ {N H C S P : Type 0} where
  -- and all of them together
  abbrev pub total_of : NameCount → List (NameWork N H C S P) → ℕ
  total_of count name_works = sum_by (λ (name_work : NameWork N H C S P). count_of count name_work.counts) name_works

  -- the names line: each look is a hit, a miss or late
  abbrev pub names_line : List (NameWork N H C S P) → NamesLine
  names_line name_works = record {
    looks = total_of Hits name_works + total_of Misses name_works + total_of Late name_works;
    hits = total_of Hits name_works;
    misses = total_of Misses name_works;
    late = total_of Late name_works;
    binds = total_of Binds name_works;
    unbound = total_of Unbound name_works;
    refused = total_of Refused name_works;
  }

module _ {N H C S P : Type 0} where
  -- these counts are those of a report
  pub record CountsFit (name_works : List (NameWork N H C S P)) : Type 0 where
    pub looks : total_of Hits name_works + total_of Misses name_works + total_of Late name_works < 2 ^ 64
    pub binds : total_of Binds name_works + total_of Refused name_works < 2 ^ 64
    pub unbound : total_of Unbound name_works < 2 ^ 64

-- the report with the zone of the names behind the others
abbrev pub with_names : Report → NamesPart → Report
with_names first part = record first {
  lines = first.lines ++ part.line ∷ [];
  ledgers = first.ledgers ++ part.ledgers ∷ [];
  hooks = first.hooks ++ part.hooks ∷ [];
  kegs = first.kegs ++ part.keg ∷ [];
  names = Some part.counts;
}

module _ {N H C S P : Type 0} (names : NameGhosts N H C S P) where
  -- each has a seat of the zone of the names
  abbrev pub AreSeats : C → List (NameWork N H C S P) → Type 0
  AreSeats cache name_works = All (λ (name_work : NameWork N H C S P). names.IsSeat cache name_work.seat) name_works

  -- there are at most 16 of them, and each has
  pub record SeatsFit (cache : C) (name_works : List (NameWork N H C S P)) : Type 0 where
    pub few : length name_works ≤ 16
    pub seats : AreSeats cache name_works

  -- the ledgers of the seats of the names, from worker 0 on
  abbrev pub AreNameLedgers : List (NameWork N H C S P) → List SeatLedger → Type 0
  AreNameLedgers name_works ledgers = map (λ (name_work : NameWork N H C S P). names.counted name_work.seat) name_works ≡ map Some ledgers

  -- The ledgers of so many zones, and behind them those of the names, where they count.
  abbrev pub AreAllLedgers : {h : Ghosts H P} → Bool → ℕ → List (Worker H P h) → List (NameWork N H C S P) → List (List SeatLedger) → Type 0
  AreAllLedgers false zones workers name_works ledgers = AreLedgers zones workers ledgers
  AreAllLedgers true zones workers name_works ledgers =
      (first : List (List SeatLedger)) × (own : List SeatLedger) × AreLedgers zones workers first × AreNameLedgers name_works own × (ledgers ≡ first ++ own ∷ [])

  -- how often the entries that all these seats hold passed a hook
  abbrev pub seats_passed : Hook → List (NameWork N H C S P) → ℕ
  seats_passed hook name_works = sum_by (λ (name_work : NameWork N H C S P). names.passed name_work.seat hook) name_works

  -- how many of them are deferred
  abbrev pub seats_waiting : List (NameWork N H C S P) → ℕ
  seats_waiting name_works = sum_by (λ (name_work : NameWork N H C S P). names.deferred name_work.seat) name_works

  -- the sums of the first so many of these seats
  pub record AreSeatSums (count : ℕ) (name_works : List (NameWork N H C S P)) (sums : Sums) : Type 0 where
    pub few : AreOfAtMost (704 * count) sums
    pub passed : (hook : Hook) → sum_of sums.tally hook ≡ seats_passed hook (take count name_works)
    pub waiting : sums.deferred ≡ seats_waiting (take count name_works)
    pub balance : (cache : C) → AreSeats cache name_works → Balance 0 sums

  -- the sums of all these seats, and of what the domains list and the rows link
  pub record AreNameSums (cache : C) (name_works : List (NameWork N H C S P)) (sums : Sums) : Type 0 where
    pub few : AreOfAtMost (2 ^ 36) sums
    pub passed : (hook : Hook) → seats_passed hook name_works ≤ sum_of sums.tally hook
    pub waiting : seats_waiting name_works ≤ sums.deferred
    pub links : HasLinked (names.sizes_of cache).rows sums

  -- The zone of the names when all lines are done: a census of its own keg, how often its entries passed each hook wherever they are, and how many of them are deferred. So many more are linked in rows.
  pub record NamesClose (cache : C) (name_works : List (NameWork N H C S P)) (census : Census) (tally : TallySum) (deferred : ℕ) : Type 0 where
    pub own : names.IsCensus cache census
    pub cap : (census_counts census).cap ≡ (names.sizes_of cache).slabs
    pub reserve : (census_counts census).reserve ≡ 0
    pub per_slab : (census_counts census).per_slab ≡ 64
    -- counted are those of the census and of the seats, and more, since the domains and the rows have some too
    pub hooks : (hook : Hook) → sum_of (census_tally census) hook + seats_passed hook name_works ≤ sum_of tally hook
    pub waiting : seats_waiting name_works ≤ deferred
    pub linked : ℕ
    pub few : linked ≤ (names.sizes_of cache).rows
    pub pairs : ShowsSame (sum_of tally (Ctor 0)) (sum_of tally (Dtor 0) + deferred + linked)

  -- what a report has of the zone of the names, by the workers' seats and counts, by a census and the hooks' sums, and by so many deferred entries
  pub record IsNamesPart (line : NamesHead) (name_works : List (NameWork N H C S P)) (census : Census) (tally : TallySum) (deferred : ℕ) (part : NamesPart) : Type 0 where
    pub of_seats : AreNameLedgers name_works part.ledgers
    -- it has no limit, and its ledgers keep no refusal by another
    pub limits : KeepSomeOf (0 ∷ []) part.ledgers
    pub of_zone : part.line ≡ line_by (entry_zone line) 0 0 part.ledgers census
    pub of_hooks : part.hooks ≡ hook_line line.name 0 tally deferred
    pub of_keg : part.keg ≡ keg_line line.name census tally
    pub of_counts : part.counts ≡ names_line name_works

  -- whether the first of these seats counts, as each does where names are served
  abbrev pub first_counts : List (NameWork N H C S P) → Bool
  first_counts name_works = option_map_or (λ (name_work : NameWork N H C S P). is_some (names.counted name_work.seat)) (slice_get name_works 0) false

  -- The report is that of the zones of the zone lines, with the zone of the names behind them.
  pub record HasNames (cache : C) (line : NamesHead) (name_works : List (NameWork N H C S P)) (first report : Report) : Type 0 where
    pub census : Census
    pub tally : TallySum
    pub deferred : ℕ
    pub closes : NamesClose cache name_works census tally deferred
    pub part : NamesPart
    pub is_part : IsNamesPart line name_works census tally deferred part
    pub whole : report ≡ with_names first part

  -- the whole report of a trace with this names line, or without one
  abbrev pub IsWhole : C → Option NamesHead → List (NameWork N H C S P) → Report → Report → Type 0
  IsWhole cache None name_works first report = report ≡ first
  IsWhole cache (Some line) name_works first report = HasNames cache line name_works first report
