-- A worker whose pass left or came.
use Rattle.std.proofs.Common.{◌≡◌, List, [], refl, sym, ap, ◌∙◌, le_of_eq}
use Rattle.smr_clock.specs.declared.clock.Clock.{Clock}
use Rattle.smr_clock.specs.declared.host.Host.{Ghosts}
use Rattle.smr_clock.specs.declared.view.View.{View}
use Rattle.smr_clock.specs.Belongs.{IsPassOf}
use Rattle.replay_worker.specs.declared.gate.Attendance.{Attendance}
use Rattle.replay_worker.specs.declared.gate.Attendance.TheVariants.{There, Away}
use Rattle.replay_worker.specs.declared.worker.Held.{Held}
use Rattle.replay_worker.specs.declared.worker_run.WorkerRun.{WorkerRun}
use Rattle.replay_worker.specs.declared.worker.Worker.{Worker}
use Rattle.std.specs.Prelude.{Option}
use Rattle.replay_worker.specs.Attendance.{is_out, with_slots_at, worker_at, worker_in}
use Rattle.replay_worker.specs.Giving.{with_slots}
use Rattle.replay_worker.specs.Items.{CountedZone}
use Rattle.replay_worker.specs.Performs.{KeepsAll, KeepsHolds, KeepsSection}
use Rattle.replay_worker.specs.Worker.{FitsZones}
use Rattle.replay_worker.proofs.AtPlace.{fits_kept}

module _ {H Part : Type 0} {h : Ghosts H Part} where
  pub keeps_holds : (old new : Worker H Part h) → KeepsAll old new → KeepsHolds old new
  keeps_holds old new keeps = record { seats = keeps.seats; slots = keeps.slots }

  pub keeps_section : (old new : Worker H Part h) → KeepsAll old new → KeepsSection old new
  keeps_section old new keeps = record {
    phase = ap (λ (v : View Part). v.holder.phase) keeps.known;
    seen = le_of_eq (sym (ap (λ (v : View Part). v.holder.seen) keeps.known));
    entered = keeps.entered;
    late = keeps.late;
  }

  pub keeps_fits : (zones : List (CountedZone H Part h)) (clock : Clock H Part) (old new : Worker H Part h) → FitsZones zones clock old → IsPassOf clock new.pass → KeepsAll old new → FitsZones zones clock new
  keeps_fits zones clock old new fits pass keeps = fits_kept zones clock old new fits pass (keeps_holds old new keeps)

  -- ---- other slots

  pub worker_with : (a : Attendance H Part h) (slots : List (Option Held)) → worker_at (with_slots_at a slots) ≡ record (worker_at a) { slots = slots }
  worker_with (There w) slots = refl
  worker_with (Away a) slots = refl

  pub out_with : (a : Attendance H Part h) (slots : List (Option Held)) → is_out (with_slots_at a slots) ≡ is_out a
  out_with (There w) slots = refl
  out_with (Away a) slots = refl

  pub slots_with : (a : Attendance H Part h) (slots : List (Option Held)) → (worker_at (with_slots_at a slots)).slots ≡ slots
  slots_with a slots = ap (λ (w : Worker H Part h). w.slots) (worker_with a slots)

  pub with_twice : (a : Attendance H Part h) (slots others : List (Option Held)) → with_slots_at (with_slots_at a slots) others ≡ with_slots_at a others
  with_twice (There w) slots others = refl
  with_twice (Away a) slots others = refl

module _ {N H C S Part : Type 0} {h : Ghosts H Part} where
  -- ---- workers that are alike but for their slots

  pub same_bare : (a b : WorkerRun N H C S Part h) → with_slots a [] ≡ with_slots b [] → record (worker_in a) { slots = [] } ≡ record (worker_in b) { slots = [] }
  same_bare a b same = sym (worker_with a.attendance []) ∙ (ap worker_in same ∙ worker_with b.attendance [])

  pub same_out : (a b : WorkerRun N H C S Part h) → with_slots a [] ≡ with_slots b [] → is_out a.attendance ≡ is_out b.attendance
  same_out a b same = sym (out_with a.attendance []) ∙ (ap (λ (r : WorkerRun N H C S Part h). is_out r.attendance) same ∙ out_with b.attendance [])
