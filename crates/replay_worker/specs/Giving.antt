-- What a `give` line does to the workers (own).
use Rattle.std.specs.Prelude.{◌≡◌, ℕ, List, [], ◌∷◌, map, Option, None, slice_index_or, slice_set}
use Rattle.smr_clock.specs.declared.clock.Clock.{Clock}
use Rattle.smr_clock.specs.declared.host.Host.{Ghosts}
use Rattle.trace_text.specs.declared.trace.Between.TheVariants.{Give}
use Rattle.trace_text.specs.Lines.{Line, Moves}
use Rattle.trace_text.specs.Reading.{held}
use Rattle.replay_worker.specs.declared.worker.Held.{Held}
use Rattle.replay_worker.specs.declared.worker_run.WorkerRun.{WorkerRun}
use Rattle.replay_worker.specs.declared.worker.Worker.{Worker}
use Rattle.replay_worker.specs.Attendance.{with_slots_at, worker_in}
use Rattle.replay_worker.specs.Items.{CountedZone}
use Rattle.replay_worker.specs.Slots.{slot_at, filled, emptied}
use Rattle.replay_worker.specs.Together.{AddsUp, AllStand, crew}

module _ {N H C S P : Type 0} {h : Ghosts H P} where
  -- the worker with other slots, there or away as it was
  abbrev pub with_slots : WorkerRun N H C S P h → List (Option Held) → WorkerRun N H C S P h
  with_slots r slots = record r { attendance = with_slots_at r.attendance slots }

  -- One worker's slots become these, and nothing else changes.
  pub record SetsSlots (n : ℕ) (after : List (Option Held) → List (Option Held)) (old new : List (WorkerRun N H C S P h)) : Type 0 where
    pub before : WorkerRun N H C S P h
    pub at : (d : WorkerRun N H C S P h) → slice_index_or old n d ≡ before
    pub set : new ≡ slice_set old n (with_slots before (after (worker_in before).slots))

  -- what a worker's slot holds
  abbrev pub slot_of : List (WorkerRun N H C S P h) → ℕ → ℕ → WorkerRun N H C S P h → Option Held
  slot_of workers n slot d = slot_at (worker_in (slice_index_or workers n d)).slots slot

  -- it is taken out of the slot
  pub record TakesFrom (n slot : ℕ) (old : List (WorkerRun N H C S P h)) (held : Option Held) (new : List (WorkerRun N H C S P h)) : Type 0 where
    pub took : (d : WorkerRun N H C S P h) → held ≡ slot_of old n slot d
    pub sets : SetsSlots n (λ slots. emptied slots slot) old new

  -- this is put into the slot
  pub record PutsInto (n slot : ℕ) (held : Option Held) (old new : List (WorkerRun N H C S P h)) : Type 0 where
    pub sets : SetsSlots n (λ slots. filled slots slot held) old new

  -- What the giver's slot holds is taken out and put into the taker's, or nothing is.
  pub record Gives (giver slot taker slot2 : ℕ) (old new : List (WorkerRun N H C S P h)) : Type 0 where
    pub held : Option Held
    pub between : List (WorkerRun N H C S P h)
    pub takes : TakesFrom giver slot old held between
    pub puts : PutsInto taker slot2 held between new

  -- each worker is as it was but for its slots
  abbrev pub KeepsRest : List (WorkerRun N H C S P h) → List (WorkerRun N H C S P h) → Type 0
  KeepsRest old new = map (λ r. with_slots r []) new ≡ map (λ r. with_slots r []) old

module _ {H P : Type 0} {h : Ghosts H P} where
  -- They stand for these lines, and a zone's items add up where they did.
  pub record HasMoved (zones : List (CountedZone H P h)) (clock : Clock H P) (lines : List Line) (old new : List (Worker H P h)) : Type 0 where
    pub stand : AllStand zones clock lines new
    pub adds_up : (z : ℕ) → AddsUp z old → AddsUp z new

module _ {N H C S P : Type 0} {h : Ghosts H P} where
  -- Whatever the zones, the clock and the lines before are: where the workers stood for these, and the taker's slot is empty in their reading, the workers stand for the `give` line too.
  abbrev pub MovesOn : ℕ → ℕ → ℕ → ℕ → List (WorkerRun N H C S P h) → List (WorkerRun N H C S P h) → Type 0
  MovesOn giver slot taker slot2 old new = (zones : List (CountedZone H P h)) (clock : Clock H P) (lines : List Line) → held lines taker slot2 ≡ None → AllStand zones clock lines (crew old)
      → HasMoved zones clock (Moves (Give giver slot taker slot2) ∷ lines) (crew old) (crew new)
