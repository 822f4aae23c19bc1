-- One worker's slots written in a slice of workers, and the two such steps of a `give` line.
use Rattle.std.proofs.Common.{◌≡◌, ℕ, ◌<◌, ◌≤◌, List, Option, ap, ◌∙◌, length, get_or}
use Rattle.std.proofs.lemmas.List.{get_or_default}
use Rattle.std.specs.Prelude.{Result, Ok, Err, OnOk, slice_set}
use Rattle.smr_clock.specs.declared.host.Host.{Ghosts}
use Rattle.replay_worker.specs.declared.gate.Attendance.{Attendance}
use Rattle.replay_worker.specs.declared.worker.Held.{Held}
use Rattle.replay_worker.specs.declared.worker_run.WorkerRun.{WorkerRun}
use Rattle.replay_worker.specs.Attendance.{with_slots_at, worker_in}
use Rattle.replay_worker.specs.Giving.{Gives, KeepsRest, MovesOn, PutsInto, SetsSlots, TakesFrom}
use Rattle.replay_worker.specs.Slots.{slot_at, filled, emptied}
use Rattle.replay_worker.proofs.GiveSteps.{moves_on}
use Rattle.replay_worker.proofs.GiveSums.{rest_gives}

module _ {N H C S Part : Type 0} {h : Ghosts H Part} where
  -- the worker, there or away so
  abbrev attending : WorkerRun N H C S Part h → Attendance H Part h → WorkerRun N H C S Part h
  attending r attendance = record r { attendance = attendance }

  sets_at : (workers : List (WorkerRun N H C S Part h)) (n : ℕ) (seen : WorkerRun N H C S Part h) (after : List (Option Held) → List (Option Held)) (attendance : Attendance H Part h) → n < length workers
      → attendance ≡ with_slots_at (get_or workers n seen).attendance (after (worker_in (get_or workers n seen)).slots)
      → SetsSlots n after workers (slice_set workers n (attending (get_or workers n seen) attendance))
  sets_at workers n seen after attendance below is = record {
    before = get_or workers n seen;
    at = λ d. get_or_default workers n d seen below;
    set = ap (λ (a : Attendance H Part h). slice_set workers n (attending (get_or workers n seen) a)) is;
  }

  pub takes_at : (workers : List (WorkerRun N H C S Part h)) (n slot : ℕ) (seen : WorkerRun N H C S Part h) (got : Option Held) (attendance : Attendance H Part h) → n < length workers → got ≡ slot_at (worker_in (get_or workers n seen)).slots slot
      → attendance ≡ with_slots_at (get_or workers n seen).attendance (emptied (worker_in (get_or workers n seen)).slots slot) → TakesFrom n slot workers got (slice_set workers n (attending (get_or workers n seen) attendance))
  takes_at workers n slot seen got attendance below took is = record {
    took = λ d. took ∙ ap (λ (r : WorkerRun N H C S Part h). slot_at (worker_in r).slots slot) (get_or_default workers n seen d below);
    sets = sets_at workers n seen (λ slots. emptied slots slot) attendance below is;
  }

  pub puts_at : {T E : Type 0} (r : Result T E) (workers : List (WorkerRun N H C S Part h)) (n slot : ℕ) (seen : WorkerRun N H C S Part h) (got : Option Held) (attendance : Attendance H Part h) → n < length workers
      → OnOk r (attendance ≡ with_slots_at (get_or workers n seen).attendance (filled (worker_in (get_or workers n seen)).slots slot got))
      → OnOk r (PutsInto n slot got workers (slice_set workers n (attending (get_or workers n seen) attendance)))
  puts_at (Ok x) workers n slot seen got attendance below is = record { sets = sets_at workers n seen (λ slots. filled slots slot got) attendance below is }
  puts_at (Err e) workers n slot seen got attendance below is = tt

  pub gives_of : {T E : Type 0} (r : Result T E) (giver slot taker slot2 : ℕ) (old between new : List (WorkerRun N H C S Part h)) (got : Option Held) → TakesFrom giver slot old got between
      → OnOk r (PutsInto taker slot2 got between new) → OnOk r (Gives giver slot taker slot2 old new)
  gives_of (Ok x) giver slot taker slot2 old between new got takes puts = record { held = got; between = between; takes = takes; puts = puts }
  gives_of (Err e) giver slot taker slot2 old between new got takes puts = tt

  pub rest_of : {T E : Type 0} (r : Result T E) (giver slot taker slot2 : ℕ) (old new : List (WorkerRun N H C S Part h)) → OnOk r (Gives giver slot taker slot2 old new) → OnOk r (KeepsRest old new)
  rest_of (Ok x) giver slot taker slot2 old new gives = rest_gives giver slot taker slot2 old new gives
  rest_of (Err e) giver slot taker slot2 old new gives = tt

  pub moves_of : {T E : Type 0} (r : Result T E) (giver slot taker slot2 : ℕ) (old new : List (WorkerRun N H C S Part h)) → giver < length old → taker < length old → slot2 ≤ 65535 → OnOk r (Gives giver slot taker slot2 old new)
      → OnOk r (MovesOn giver slot taker slot2 old new)
  moves_of (Ok x) giver slot taker slot2 old new is_giver is_taker least gives = moves_on giver slot taker slot2 old new is_giver is_taker least gives
  moves_of (Err e) giver slot taker slot2 old new is_giver is_taker least gives = tt
