-- Workers before the first line (own).
use Rattle.std.specs.Prelude.{◌≡◌, ℕ, List, [], length, Some, slice_get}
use Rattle.smr_clock.specs.declared.pass.Pass.{Pass}
use Rattle.smr_clock.specs.declared.host.Host.{Ghosts}
use Rattle.uma_zone.specs.Seat.{IsFresh}
use Rattle.uma_zone.specs.Zone.{zone_bucket, IsSeatOf}
use Rattle.replay_worker.specs.declared.gate.Attendance.TheVariants.{There}
use Rattle.replay_worker.specs.declared.worker_run.WorkerRun.{WorkerRun}
use Rattle.replay_worker.specs.declared.worker.Worker.{Worker}
use Rattle.replay_worker.specs.Items.{CountedSeat, CountedZone}
use Rattle.replay_worker.specs.NameWork.{no_counts}

module _ {H P : Type 0} {h : Ghosts H P} where
  -- a new seat of a zone, in this domain
  pub record IsNewSeat (zone : CountedZone H P h) (domain : ℕ) (seat : CountedSeat H P h) : Type 0 where
    pub seat_of : IsSeatOf zone seat
    pub fresh : IsFresh (zone_bucket zone) domain seat

  -- new seats of these zones, in order
  pub record AreSeats (zones : List (CountedZone H P h)) (domain : ℕ) (seats : List (CountedSeat H P h)) : Type 0 where
    pub count : length seats ≡ length zones
    pub each : (z : ℕ) (zone : CountedZone H P h) (seat : CountedSeat H P h) → slice_get zones z ≡ Some zone → slice_get seats z ≡ Some seat → IsNewSeat zone domain seat

  -- It has this pass and new seats in this domain, and holds and counted nothing.
  pub record IsNewWorker (zones : List (CountedZone H P h)) (pass : Pass H P h) (domain : ℕ) (w : Worker H P h) : Type 0 where
    pub pass_kept : w.pass ≡ pass
    pub seats : AreSeats zones domain w.seats.items
    pub slots : w.slots ≡ []
    pub entered : w.entered ≡ 0
    pub late : w.late ≡ 0

module _ {N H C S P : Type 0} {h : Ghosts H P} where
  -- It is there, has this seat of the names, and its gate was asked nothing yet.
  pub record IsIdle (w : Worker H P h) (s : S) (r : WorkerRun N H C S P h) : Type 0 where
    pub worker : r.attendance ≡ There w
    pub seat : r.name_work.seat ≡ s
    pub counts : r.name_work.counts ≡ no_counts
    pub asked : r.asked ≡ 0
    pub gave_up : r.gave_up ≡ 0
