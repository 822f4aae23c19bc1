-- What a replay leaves behind, and what its report has to do with it (own).
use Rattle.std.specs.Prelude.{◌≡◌, ℕ, List, Some, IfSome, is_some, length, reverse, slice_get, sum}
use Rattle.smr_clock.specs.declared.clock.Clock.{Clock}
use Rattle.smr_clock.specs.declared.host.Host.{Ghosts}
use Rattle.trace_text.specs.declared.trace.Trace.{Trace}
use Rattle.trace_text.specs.Lines.{lines_of}
use Rattle.uma_life.specs.declared.tally.TallySum.{TallySum}
use Rattle.zone_stats.specs.declared.report.Report.{Report}
use Rattle.replay_worker.specs.declared.name_calls.NameCalls.{Ghosts as NameGhosts}
use Rattle.replay_worker.specs.declared.name_work.NameWork.{NameWork}
use Rattle.replay_worker.specs.declared.worker.Worker.{Worker}
use Rattle.replay_worker.specs.Clocks.{IsClockOf}
use Rattle.replay_worker.specs.Items.{CountedZone}
use Rattle.replay_worker.specs.NameSizes.{sizes_for}
use Rattle.replay_worker.specs.NamesStand.{NamesOfClock, NamesStand}
use Rattle.replay_worker.specs.Together.{AddsUp, AllStand}
use Rattle.replay_rounds.specs.Zones.{AreZones}
use Rattle.replay_rounds.specs.Clock.{ReadsHands}
use Rattle.replay_rounds.specs.Closes.{AllClose}
use Rattle.uma_replay.specs.declared.hall.Hall.{Hall}
use Rattle.uma_replay.specs.Names.{IsWhole}
use Rattle.uma_replay.specs.Playing.{HaveEnded, HavePlayed}
use Rattle.uma_replay.specs.Reporting.{IsReportOf}

module _ {H P : Type 0} {h : Ghosts H P} where
  -- All lines of the trace are done.
  pub record AreDone (t : Trace) (zones : List (CountedZone H P h)) (clock : Clock H P) (workers : List (Worker H P h)) : Type 0 where
    -- the clock has the numbers of the clock line, and each zone those of its line
    pub clock_made : IsClockOf t.head clock
    pub zones_made : AreZones t.head clock zones
    -- each worker's seats, pass and items are of these zones and this clock, and it stands for all lines
    pub worker_count : length workers ≡ t.head.workers
    pub stand : AllStand zones clock (reverse (lines_of t.rounds)) workers
    -- the live items of each zone are its allocs less its frees
    pub adds_up : (z : ℕ) → AddsUp z workers

module _ {N H C S P : Type 0} {h : Ghosts H P} (names : NameGhosts N H C S P) where
  -- All that is of the names when all lines are done.
  pub record NamesDone (t : Trace) (cache : C) (zones : List (CountedZone H P h)) (clock : Clock H P) (workers : List (Worker H P h)) (name_works : List (NameWork N H C S P)) : Type 0 where
    -- they are served where the trace has a names line, by this clock and with that line's sizes
    pub served : names.serves ≡ is_some t.head.names
    pub of_clock : NamesOfClock names cache clock
    pub sizes : IfSome t.head.names (λ line. names.sizes_of cache ≡ sizes_for t.head line)
    -- each worker has a seat of them, and its counts stand for all lines
    pub name_work_count : length name_works ≡ t.head.workers
    pub stand : (n : ℕ) (w : Worker H P h) (name_work : NameWork N H C S P) → slice_get workers n ≡ Some w → slice_get name_works n ≡ Some name_work → NamesStand names cache n (reverse (lines_of t.rounds)) w.late name_work
    -- each began new, and all together did the rounds, and between two of them the `give` lines moved what slots held, and each `setmax` line set the limit of its zone
    pub together : HavePlayed names cache t zones clock workers name_works

  -- The hall of a trace, and its report, which is made of what the hall has: of the workers' ledgers and counts, of the kegs' censuses, and of
  -- these sums of hooks, counts of deferred items and hands.
  pub record HallStands (t : Trace) (report : Report) (hall : Hall N H C S P h) : Type 0 where
    pub done : AreDone t hall.zones hall.clock hall.workers
    pub named : NamesDone t hall.names hall.zones hall.clock hall.workers hall.name_works
    -- each worker ended with its count of how often it gave up waiting, and the report has the sum of these counts
    pub ended : HaveEnded t hall.clock hall.workers hall.name_works hall.gave_ups
    pub gave_up : report.gave_up ≡ sum hall.gave_ups
    pub tallies : List TallySum
    pub deferred : List ℕ
    -- the sums are those of the censuses' items and of the items in slots and seats, and more, which the zones' domains list; so are the counts
    pub closes : AllClose t.head hall.zones hall.workers hall.censuses tallies deferred
    pub read : ℕ
    pub write : ℕ
    -- worker 0's pass knows no lower hands than any other, and they are these
    pub hands : ReadsHands hall.clock hall.workers read write
    -- the report of the zones of the zone lines
    pub first : Report
    pub made_of : IsReportOf t hall.workers hall.censuses tallies deferred read write first.gave_up first
    -- behind it the zone of the names, where the trace has one
    pub whole : IsWhole names hall.names t.head.names hall.name_works first report
