-- A worker's turn in a round: what it needs, and what it leaves (own).
use Rattle.std.specs.Prelude.{◌≡◌, ◌<◌, ◌≤◌, ◌+◌, ◌*◌, ◌^◌, ℕ, List, length, is_some}
use Rattle.trace_text.specs.declared.trace.Trace.{Trace}
use Rattle.trace_text.specs.Valid.{IsValid}
use Rattle.uma_seat.specs.Seat.{ledger_of}
use Rattle.replay_worker.specs.declared.name_calls.NameCalls.{Ghosts as NameGhosts}
use Rattle.replay_worker.specs.declared.worker_run.WorkerRun.{WorkerRun}
use Rattle.replay_worker.specs.declared.worker.Worker.{Worker}
use Rattle.replay_worker.specs.Attendance.{worker_in}
use Rattle.replay_worker.specs.Items.{CountedSeat, CountedZone}
use Rattle.replay_worker.specs.OwnLines.{lines_before, own_ops, worked}
use Rattle.replay_worker.specs.Live.{live_count}
use Rattle.replay_worker.specs.NameLines.{DoesAll, line_state}
use Rattle.replay_worker.specs.NamesStand.{NamesOfClock, NamesStand}
use Rattle.replay_worker.specs.Stands.{Stands}
use Rattle.replay_worker.specs.Together.{IsAbsent}
use Rattle.replay_worker.specs.Worker.{AreOfClock, FitsZones, seen_of}
use Rattle.std.specs.Prelude.{Some, slice_get}
use Rattle.smr_clock.specs.declared.clock.Clock.{Clock}
use Rattle.smr_clock.specs.declared.host.Host.{Ghosts}

module _ {H P : Type 0} {h : Ghosts H P} where
  -- What a worker's items of the zone at place `z` and its ledger of it come to: the items that it got more are in its slots, or were freed.
  abbrev pub Balances : ℕ → Worker H P h → Worker H P h → Type 0
  Balances z old new = (before after : CountedSeat H P h) → slice_get old.seats.items z ≡ Some before → slice_get new.seats.items z ≡ Some after
      → live_count z new.slots + (ledger_of after).frees + (ledger_of before).allocs ≡ live_count z old.slots + (ledger_of before).frees + (ledger_of after).allocs

-- how often a gate that holds is asked before one operation
abbrev pub most_asks : ℕ
most_asks = 100000000

module _ {N H C S P : Type 0} {h : Ghosts H P} (names : NameGhosts N H C S P) (cache : C) where
  -- Worker `n` is ready for round `k`: of a valid trace whose names, if it has any, are served, with its zones, its clock and its cache of names, after the lines of the rounds before.
  pub record IsReady (t : Trace) (zones : List (CountedZone H P h)) (clock : Clock H P) (k n : ℕ) (r : WorkerRun N H C S P h) : Type 0 where
    pub valid : IsValid t
    pub served : names.serves ≡ is_some t.head.names
    pub round : k < length t.rounds
    pub worker : n < t.head.workers
    pub zone_count : length zones ≡ length t.head.zones
    pub of_clock : AreOfClock clock zones
    pub names_of_clock : NamesOfClock names cache clock
    pub few : length (lines_before t.rounds k) + length (own_ops t.rounds k n) < 2 ^ 32
    pub asks : r.asked + most_asks * length (own_ops t.rounds k n) < 2 ^ 64
    pub gave_up : r.gave_up + length (own_ops t.rounds k n) < 2 ^ 64
    pub fits : FitsZones zones clock (worker_in r)
    pub stands : Stands zones clock n (lines_before t.rounds k) (worker_in r)
    pub named : NamesStand names cache n (lines_before t.rounds k) (worker_in r).late r.name_work
    pub absent : IsAbsent n (lines_before t.rounds k) r

  -- What its turn leaves: its own list on top of the lines before, and items and ledgers that go together. Line after line it did what each says.
  pub record HasWorked (t : Trace) (zones : List (CountedZone H P h)) (clock : Clock H P) (k n : ℕ) (old new : WorkerRun N H C S P h) : Type 0 where
    pub fits : FitsZones zones clock (worker_in new)
    pub stands : Stands zones clock n (worked n (own_ops t.rounds k n) (lines_before t.rounds k)) (worker_in new)
    pub named : NamesStand names cache n (worked n (own_ops t.rounds k n) (lines_before t.rounds k)) (worker_in new).late new.name_work
    pub absent : IsAbsent n (worked n (own_ops t.rounds k n) (lines_before t.rounds k)) new
    pub plays : DoesAll names cache zones (line_state old) (own_ops t.rounds k n) (line_state new)
    pub balances : (z : ℕ) → Balances z (worker_in old) (worker_in new)
    -- its pass forgets nothing
    pub seen : seen_of (worker_in old) ≤ seen_of (worker_in new)
    -- it was asked at least once and at most so often before each operation, and gave up waiting at most once before each
    pub asked_some : old.asked + length (own_ops t.rounds k n) ≤ new.asked
    pub asked_few : new.asked ≤ old.asked + most_asks * length (own_ops t.rounds k n)
    pub gave_up_few : new.gave_up ≤ old.gave_up + length (own_ops t.rounds k n)
