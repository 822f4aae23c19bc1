-- The workers of a replay, all together (own).
use Rattle.std.specs.Prelude.{◌≡◌, ◌+◌, ℕ, List, Option, Some, map, option_map, slice_get}
use Rattle.std.specs.List.{sum_by}
use Rattle.std.specs.Option.{option_map_or}
use Rattle.smr_clock.specs.declared.clock.Clock.{Clock}
use Rattle.smr_clock.specs.declared.host.Host.{Ghosts}
use Rattle.trace_text.specs.Lines.{Line}
use Rattle.trace_text.specs.Reading.{is_away}
use Rattle.uma_seat.specs.Seat.{ledger_of}
use Rattle.zone_stats.specs.declared.ledger.SeatLedger.{SeatLedger}
use Rattle.replay_worker.specs.declared.name_calls.NameCalls.{Ghosts as NameGhosts}
use Rattle.replay_worker.specs.declared.worker_run.WorkerRun.{WorkerRun}
use Rattle.replay_worker.specs.declared.worker.Worker.{Worker}
use Rattle.replay_worker.specs.Attendance.{is_out, worker_in}
use Rattle.replay_worker.specs.Items.{CountedZone}
use Rattle.replay_worker.specs.Live.{live_count}
use Rattle.replay_worker.specs.NamesStand.{NamesStand}
use Rattle.replay_worker.specs.Stands.{Stands}
use Rattle.replay_worker.specs.Worker.{FitsZones}

module _ {N H C S P : Type 0} {h : Ghosts H P} where
  -- the workers of these turns; those that are away, as which they come back
  abbrev pub crew : List (WorkerRun N H C S P h) → List (Worker H P h)
  crew runs = map worker_in runs

  -- it is away where the reading of the lines says so
  abbrev pub IsAbsent : ℕ → List Line → WorkerRun N H C S P h → Type 0
  IsAbsent n lines r = is_out r.attendance ≡ is_away lines n

  -- each of them is
  abbrev pub AllAbsent : List Line → List (WorkerRun N H C S P h) → Type 0
  AllAbsent lines workers = (n : ℕ) (r : WorkerRun N H C S P h) → slice_get workers n ≡ Some r → IsAbsent n lines r

module _ {H P : Type 0} {h : Ghosts H P} where
  -- Each worker's seats, pass and items belong to the zones and the clock, and it stands for these lines.
  pub record AllStand (zones : List (CountedZone H P h)) (clock : Clock H P) (lines : List Line) (workers : List (Worker H P h)) : Type 0 where
    pub fits : (n : ℕ) (w : Worker H P h) → slice_get workers n ≡ Some w → FitsZones zones clock w
    pub stands : (n : ℕ) (w : Worker H P h) → slice_get workers n ≡ Some w → Stands zones clock n lines w

  -- what the worker's seat of the zone at place `z` counted
  abbrev pub ledger_at : ℕ → Worker H P h → Option SeatLedger
  ledger_at z w = option_map ledger_of (slice_get w.seats.items z)

  -- the allocs of the zone at place `z` that all workers counted
  abbrev pub all_allocs : ℕ → List (Worker H P h) → ℕ
  all_allocs z workers = sum_by (λ w. option_map_or (λ ledger. ledger.allocs) (ledger_at z w) 0) workers

  -- and their frees
  abbrev pub all_frees : ℕ → List (Worker H P h) → ℕ
  all_frees z workers = sum_by (λ w. option_map_or (λ ledger. ledger.frees) (ledger_at z w) 0) workers

  -- the items of the zone at place `z` that all workers' slots hold
  abbrev pub all_live : ℕ → List (Worker H P h) → ℕ
  all_live z workers = sum_by (λ w. live_count z w.slots) workers

  -- Each item of the zone that a worker got and none freed is in a slot of some worker.
  abbrev pub AddsUp : ℕ → List (Worker H P h) → Type 0
  AddsUp z workers = all_live z workers + all_frees z workers ≡ all_allocs z workers

module _ {N H C S P : Type 0} {h : Ghosts H P} (names : NameGhosts N H C S P) (cache : C) where
  -- what each of them has of the names stands for these lines
  abbrev pub AllNamed : List Line → List (WorkerRun N H C S P h) → Type 0
  AllNamed lines workers = (n : ℕ) (r : WorkerRun N H C S P h) → slice_get workers n ≡ Some r → NamesStand names cache n lines (worker_in r).late r.name_work
