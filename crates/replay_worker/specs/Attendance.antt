-- A worker that is there or away, and as which it comes back (own).
use Rattle.std.specs.Prelude.{◌≡◌, ◌≢◌, Bool, true, false, List, Option}
use Rattle.std.proofs.Common.{refl, subst}
use Rattle.smr_clock.specs.declared.clock.Clock.{Clock}
use Rattle.smr_clock.specs.declared.host.Host.{Ghosts}
use Rattle.smr_clock.specs.declared.pass.Pass.{Pass}
use Rattle.smr_clock.specs.declared.pass.Vacancy.{Vacancy}
use Rattle.smr_clock.specs.Steps.{coming}
use Rattle.smr_clock.specs.Vacancies.{vacancy_knows}
use Rattle.smr_core.specs.declared.holder.Phase.{Phase}
use Rattle.smr_core.specs.declared.holder.Phase.TheVariants.{Outside, Vacant}
use Rattle.replay_worker.specs.declared.gate.Attendance.{Attendance}
use Rattle.replay_worker.specs.declared.gate.Attendance.TheVariants.{There, Away}
use Rattle.replay_worker.specs.declared.worker.Held.{Held}
use Rattle.replay_worker.specs.declared.worker_run.WorkerRun.{WorkerRun}
use Rattle.replay_worker.specs.declared.worker.Worker.{Worker}
use Rattle.replay_worker.specs.Performs.{IsOutside, StaysWhole}

-- a pass has any phase but that of a vacancy
abbrev pub IsOfPass : Phase → Type 0
IsOfPass Vacant = ⊥
IsOfPass phase = Unit {0}

abbrev pub outside_of_pass : Outside ≢ Vacant
outside_of_pass e = subst IsOfPass e tt

module _ {H P : Type 0} {h : Ghosts H P} where
  -- the pass as which a vacancy comes: outside a section, it knows what the vacancy knows
  abbrev pub pass_of : Vacancy H P h → Pass H P h
  pass_of vacancy = record {
    seat = record vacancy.seat { me = (coming (vacancy_knows vacancy), vacancy.seat.me.1) };
    number = vacancy.number;
    phase = Outside;
    loaded = vacancy.loaded;
    numbered = vacancy.numbered;
    known = vacancy.known;
    in_phase = refl;
    worker = outside_of_pass;
    idle = vacancy.idle;
    has_loaded = vacancy.has_loaded;
  }

  -- the worker that is there, or as which the one that is away comes back
  abbrev pub worker_at : Attendance H P h → Worker H P h
  worker_at (There w) = w
  worker_at (Away a) = record { pass = pass_of a.vacancy; seats = a.seats; slots = a.slots; entered = a.entered; late = a.late }

  -- it is away
  abbrev pub is_out : Attendance H P h → Bool
  is_out (There w) = false
  is_out (Away a) = true

  -- it is there, with its pass outside a section
  pub record MayLeave (by : Clock H P) (a : Attendance H P h) : Type 0 where
    pub there : is_out a ≡ false
    pub outside : IsOutside by (worker_at a)

  -- it is away now, or there, and the same worker
  pub record Attends (by : Clock H P) (away : Bool) (old new : Attendance H P h) : Type 0 where
    pub out : is_out new ≡ away
    pub stays : StaysWhole by (worker_at old) (worker_at new)

  -- there or away as it was, with other slots
  abbrev pub with_slots_at : Attendance H P h → List (Option Held) → Attendance H P h
  with_slots_at (There w) slots = There (record w { slots = slots })
  with_slots_at (Away a) slots = Away (record a { slots = slots })

module _ {N H C S P : Type 0} {h : Ghosts H P} where
  -- the worker of these turns, or as which it comes back
  abbrev pub worker_in : WorkerRun N H C S P h → Worker H P h
  worker_in r = worker_at r.attendance
