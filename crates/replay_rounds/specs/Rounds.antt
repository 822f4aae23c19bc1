-- The workers of a replay before its first round, after each, and within one (own).
use Rattle.std.specs.Prelude.{◌≡◌, ◌<◌, ◌≤◌, ◌*◌, ◌^◌, ℕ, List, [], ◌∷◌, Ok, Some, OnOk, is_some, length, map, slice_get, slice_index_or}
use Rattle.smr_clock.specs.declared.clock.Clock.{Clock}
use Rattle.smr_clock.specs.declared.host.Host.{Ghosts}
use Rattle.trace_text.specs.declared.trace.Between.{Between}
use Rattle.trace_text.specs.declared.trace.Trace.{Trace}
use Rattle.trace_text.specs.Lines.{Line, Moves, lines_of}
use Rattle.trace_text.specs.Valid.{IsValid, LineFits, LinesFit}
use Rattle.replay_worker.specs.declared.name_calls.NameCalls.{Ghosts as NameGhosts}
use Rattle.replay_worker.specs.declared.worker_run.WorkerRun.{WorkerRun}
use Rattle.replay_worker.specs.Giving.{HasMoved}
use Rattle.replay_worker.specs.Items.{CountedZone}
use Rattle.replay_worker.specs.NamesStand.{NamesOfClock}
use Rattle.replay_worker.specs.OwnLines.{stacked}
use Rattle.replay_worker.specs.Together.{AddsUp, AllAbsent, AllNamed, AllStand, crew}
use Rattle.replay_worker.specs.Turn.{HasWorked, IsReady, most_asks}
use Rattle.replay_worker.specs.Worker.{AreOfClock}
use Rattle.replay_rounds.specs.DoneBy.{done_by}

module _ {N H C S P : Type 0} {h : Ghosts H P} (names : NameGhosts N H C S P) (cache : C) where
  -- The trace is valid, and its names are served if it has any. These are its zones, in order, with its clock and its cache of names, and its workers. It has few enough lines that all counts fit.
  pub record FitsTrace (t : Trace) (zones : List (CountedZone H P h)) (clock : Clock H P) (workers : List (WorkerRun N H C S P h)) : Type 0 where
    pub valid : IsValid t
    pub served : names.serves ≡ is_some t.head.names
    pub few : length (lines_of t.rounds) < 2 ^ 31
    pub zone_count : length zones ≡ length t.head.zones
    pub of_clock : AreOfClock clock zones
    pub names_of_clock : NamesOfClock names cache clock
    pub worker_count : length workers ≡ t.head.workers

module _ {N H C S P : Type 0} {h : Ghosts H P} where
  -- Worker `n` after these lines: its gate was asked at least once and at most so often before each of its operations, and it gave up waiting at most once before each.
  pub record HasAsked (n : ℕ) (lines : List Line) (r : WorkerRun N H C S P h) : Type 0 where
    pub asked_some : done_by n lines ≤ r.asked
    pub asked_few : r.asked ≤ most_asks * done_by n lines
    pub gave_up_few : r.gave_up ≤ done_by n lines

  -- each worker has
  abbrev pub AllAsked : List Line → List (WorkerRun N H C S P h) → Type 0
  AllAsked lines workers = (n : ℕ) (r : WorkerRun N H C S P h) → slice_get workers n ≡ Some r → HasAsked n lines r

module _ {N H C S P : Type 0} {h : Ghosts H P} (names : NameGhosts N H C S P) (cache : C) where
  -- All workers after these lines.
  pub record AreAfter (zones : List (CountedZone H P h)) (clock : Clock H P) (lines : List Line) (workers : List (WorkerRun N H C S P h)) : Type 0 where
    pub stand : AllStand zones clock lines (crew workers)
    pub adds_up : (z : ℕ) → AddsUp z (crew workers)
    pub named : AllNamed names cache lines workers
    pub absent : AllAbsent lines workers
    pub asked : AllAsked lines workers

  -- The workers before the first round: none was asked yet.
  pub record IsBegun (zones : List (CountedZone H P h)) (clock : Clock H P) (workers : List (WorkerRun N H C S P h)) : Type 0 where
    pub stand : AllStand zones clock [] (crew workers)
    pub adds_up : (z : ℕ) → AddsUp z (crew workers)
    pub named : AllNamed names cache [] workers
    pub absent : AllAbsent [] workers
    pub unasked : (n : ℕ) (r : WorkerRun N H C S P h) → slice_get workers n ≡ Some r → (r.asked ≡ 0) × (r.gave_up ≡ 0)

  -- each worker is ready for round `k`
  abbrev pub AllReady : Trace → List (CountedZone H P h) → Clock H P → ℕ → List (WorkerRun N H C S P h) → Type 0
  AllReady t zones clock k workers = (n : ℕ) (d : WorkerRun N H C S P h) → n < length workers → IsReady names cache t zones clock k n (slice_index_or workers n d)

  -- each worker that didn't want memory did its own list of round `k`
  abbrev pub AllWorked : Trace → List (CountedZone H P h) → Clock H P → ℕ → List (WorkerRun N H C S P h) → List (WorkerRun N H C S P h) → Type 0
  AllWorked t zones clock k old new = (n : ℕ) (d : WorkerRun N H C S P h) → n < length old
      → OnOk (slice_index_or new n d).ended (HasWorked names cache t zones clock k n (slice_index_or old n d) (slice_index_or new n d))

module _ {N H C S P : Type 0} {h : Ghosts H P} where
  -- none gave up waiting more often than before, place by place
  abbrev pub EachGaveUpAsBefore : List (WorkerRun N H C S P h) → List (WorkerRun N H C S P h) → Type 0
  EachGaveUpAsBefore old new = (n : ℕ) (d : WorkerRun N H C S P h) → n < length old → (slice_index_or new n d).gave_up ≡ (slice_index_or old n d).gave_up

  -- the same of the whole list
  abbrev pub GaveUpAsBefore : List (WorkerRun N H C S P h) → List (WorkerRun N H C S P h) → Type 0
  GaveUpAsBefore old new = map (λ (r : WorkerRun N H C S P h). r.gave_up) new ≡ map (λ (r : WorkerRun N H C S P h). r.gave_up) old

  -- the worker's last turn ended without want of memory
  abbrev pub HasEnded : WorkerRun N H C S P h → Type 0
  HasEnded r = r.ended ≡ Ok tt

  -- What these lines between two rounds do: workers that stand for lines that they fit stand for those with them on top, and items and ledgers add up as before.
  abbrev pub AllMoved : List Between → List (WorkerRun N H C S P h) → List (WorkerRun N H C S P h) → Type 0
  AllMoved betweens old new = (zones : List (CountedZone H P h)) (clock : Clock H P) (lines : List Line) → LinesFit lines (map Moves betweens) → AllStand zones clock lines (crew old)
      → HasMoved zones clock (stacked (map Moves betweens) lines) (crew old) (crew new)

  -- the same of one line
  abbrev pub IsMoved : Between → List (WorkerRun N H C S P h) → List (WorkerRun N H C S P h) → Type 0
  IsMoved between old new = (zones : List (CountedZone H P h)) (clock : Clock H P) (lines : List Line) → LineFits lines (Moves between) → AllStand zones clock lines (crew old)
      → HasMoved zones clock (Moves between ∷ lines) (crew old) (crew new)
