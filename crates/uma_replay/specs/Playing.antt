-- How each worker began, and how it came to what it is when all lines are done (own).
use Rattle.std.specs.Prelude.{◌≡◌, ◌≤◌, ◌%◌, ℕ, List, [], false, IfSome, IsTrue, length, map, reverse, Some, slice_get}
use Rattle.smr_clock.specs.declared.clock.Clock.{Clock}
use Rattle.smr_clock.specs.declared.host.Host.{Ghosts}
use Rattle.smr_clock.specs.Belongs.{IsPassOf}
use Rattle.trace_text.specs.declared.trace.Trace.{Trace}
use Rattle.trace_text.specs.Lines.{lines_of}
use Rattle.zone_stats.specs.LedgerSteps.{IsNew}
use Rattle.replay_worker.specs.declared.name_calls.NameCalls.{Ghosts as NameGhosts}
use Rattle.replay_worker.specs.declared.name_work.NameWork.{NameWork}
use Rattle.replay_worker.specs.declared.worker_run.WorkerRun.{WorkerRun}
use Rattle.replay_worker.specs.declared.worker.Worker.{Worker}
use Rattle.replay_worker.specs.Attendance.{is_out, worker_in}
use Rattle.replay_worker.specs.Items.{CountedZone}
use Rattle.replay_worker.specs.NameWork.{no_counts}
use Rattle.replay_worker.specs.Performs.{KeepsAll}
use Rattle.replay_worker.specs.Together.{crew}
use Rattle.replay_worker.specs.Worker.{phase_of, seen_of}
use Rattle.replay_rounds.specs.Beginners.{IsBeginner}
use Rattle.replay_rounds.specs.Betweens.{DoRounds}
use Rattle.replay_rounds.specs.Rounds.{AllAsked}
use Rattle.replay_rounds.specs.Clock.{floor_of}
use Rattle.replay_rounds.specs.Lending.{seen_slot}

module _ {N H C S P : Type 0} {h : Ghosts H P} where
  -- what these workers have of the names
  abbrev pub name_works_of : List (WorkerRun N H C S P h) → List (NameWork N H C S P)
  name_works_of runs = map (λ (r : WorkerRun N H C S P h). r.name_work) runs

  -- how often each of them gave up waiting for its gate
  abbrev pub gave_ups_of : List (WorkerRun N H C S P h) → List ℕ
  gave_ups_of runs = map (λ (r : WorkerRun N H C S P h). r.gave_up) runs

module _ {N H C S P : Type 0} {h : Ghosts H P} (names : NameGhosts N H C S P) (cache : C) where
  -- It has a seat of the names in this memory domain, counted nothing there, and took no turn.
  pub record IsFirst (domain : ℕ) (r : WorkerRun N H C S P h) : Type 0 where
    pub seat : names.IsSeat cache r.name_work.seat
    pub own : IsTrue names.serves → names.domain_of r.name_work.seat ≡ domain
    pub fresh : IfSome (names.counted r.name_work.seat) IsNew
    pub unused : names.usable r.name_work.seat ≡ []
    pub counts : r.name_work.counts ≡ no_counts
    pub asked : r.asked ≡ 0
    pub gave_up : r.gave_up ≡ 0
    pub there : is_out r.attendance ≡ false

  -- These workers, each before its first turn. Worker n is in domain n mod `domains`.
  pub record AreFirst (domains : ℕ) (workers : List (Worker H P h)) (runs : List (WorkerRun N H C S P h)) : Type 0 where
    pub are : crew runs ≡ workers
    pub each : (n : ℕ) (r : WorkerRun N H C S P h) → slice_get runs n ≡ Some r → IsFirst (n % domains) r

module _ {H P : Type 0} {h : Ghosts H P} where
  -- The worker stays as it was, but for what its pass learns and for the tokens of its items.
  pub record Stays (clock : Clock H P) (old new : Worker H P h) : Type 0 where
    pub seats : new.seats ≡ old.seats
    pub slots : map seen_slot new.slots ≡ map seen_slot old.slots
    pub entered : new.entered ≡ old.entered
    pub late : new.late ≡ old.late
    pub here : IsPassOf clock new.pass
    pub phase : phase_of new ≡ phase_of old
    pub seen : seen_of old ≤ seen_of new
    pub floor : floor_of old ≤ floor_of new

  -- each of the workers does
  pub record AllStay (clock : Clock H P) (old new : List (Worker H P h)) : Type 0 where
    pub count : length new ≡ length old
    pub each : (n : ℕ) (before after : Worker H P h) → slice_get old n ≡ Some before → slice_get new n ≡ Some after → Stays clock before after

module _ {H P : Type 0} {h : Ghosts H P} where
  -- A worker that was away came back, and one that was there stayed: its pass knows what it knew, and nothing was counted.
  pub record ComesBack (clock : Clock H P) (old new : Worker H P h) : Type 0 where
    pub here : IsPassOf clock new.pass
    pub keeps : KeepsAll old new

  -- each of the workers did
  pub record AllBack (clock : Clock H P) (old new : List (Worker H P h)) : Type 0 where
    pub count : length new ≡ length old
    pub each : (n : ℕ) (before after : Worker H P h) → slice_get old n ≡ Some before → slice_get new n ≡ Some after → ComesBack clock before after

module _ {N H C S P : Type 0} {h : Ghosts H P} where
  -- The workers that ended, back where they were away, stay since then as these, with this of the names. So often each of them gave up waiting for its gate, by its own count: at most once before each of its operations.
  pub record HaveEnded (t : Trace) (clock : Clock H P) (workers : List (Worker H P h)) (name_works : List (NameWork N H C S P)) (gave_ups : List ℕ) : Type 0 where
    pub ended : List (WorkerRun N H C S P h)
    pub asked : AllAsked (reverse (lines_of t.rounds)) ended
    pub stay : AllStay clock (crew ended) workers
    pub name_works_are : name_works ≡ name_works_of ended
    pub gave_ups_are : gave_ups ≡ gave_ups_of ended

module _ {N H C S P : Type 0} {h : Ghosts H P} (names : NameGhosts N H C S P) (cache : C) where
  -- All workers together: those that began new, each with its seats in its domain, did the rounds of the trace one after another, with the `give` and `setmax` lines between two rounds in their order, and stay since then as these.
  pub record HavePlayed (t : Trace) (zones : List (CountedZone H P h)) (clock : Clock H P) (workers : List (Worker H P h)) (name_works : List (NameWork N H C S P)) : Type 0 where
    pub begun : List (WorkerRun N H C S P h)
    pub are_new : (n : ℕ) (r : WorkerRun N H C S P h) → slice_get begun n ≡ Some r → IsBeginner zones clock (n % t.head.domains) (worker_in r) × IsFirst names cache (n % t.head.domains) r
    pub ended : List (WorkerRun N H C S P h)
    pub rounds : DoRounds names cache zones t.rounds begun ended
    -- before the report each that was away came back
    pub back : List (Worker H P h)
    pub comes : AllBack clock (crew ended) back
    pub stay : AllStay clock back workers
    pub name_works_are : name_works ≡ name_works_of ended
