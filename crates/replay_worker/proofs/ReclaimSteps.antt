-- What a line of reclaim keeps of its seat, by whichever of the calls.
use Rattle.std.proofs.Common.{ℕ, List}
use Rattle.smr_clock.specs.declared.host.Host.{Ghosts}
use Rattle.smr_clock.specs.declared.view.View.{View}
use Rattle.replay_worker.specs.declared.worker.Worker.{Worker}
use Rattle.replay_worker.specs.Items.{CountedSeat, CountedZone}
use Rattle.replay_worker.specs.Performs.{Reclaims}
use Rattle.replay_worker.specs.Reclaims.{HasDrained, HasDrainedSeat, HasTrimmed, KeepsSeat}

module _ {H Part : Type 0} {h : Ghosts H Part} where
  abbrev pub Keeping : CountedZone H Part h → View Part → CountedSeat H Part h → CountedSeat H Part h → Type 0
  Keeping zone v old new = KeepsSeat old new

  keeps_of : (zones : List (CountedZone H Part h)) (Leaves : CountedZone H Part h → View Part → CountedSeat H Part h → CountedSeat H Part h → Type 0) (old new : Worker H Part h) (z : ℕ) (step : Reclaims zones Leaves old z new)
      → KeepsSeat step.before step.after → Reclaims zones Keeping old z new
  keeps_of zones Leaves old new z step keeps = record {
    of = step.of;
    is_zone = step.is_zone;
    before = step.before;
    at = step.at;
    after = step.after;
    leaves = keeps;
    seats = step.seats;
    slots = step.slots;
    section = step.section;
  }

  pub trimmed_keeps : (zones : List (CountedZone H Part h)) (old new : Worker H Part h) (z : ℕ) → Reclaims zones HasTrimmed old z new → Reclaims zones Keeping old z new
  trimmed_keeps zones old new z step = keeps_of zones HasTrimmed old new z step step.leaves.seat.keeps

  pub drained_keeps : (zones : List (CountedZone H Part h)) (old new : Worker H Part h) (z : ℕ) → Reclaims zones HasDrained old z new → Reclaims zones Keeping old z new
  drained_keeps zones old new z step = keeps_of zones HasDrained old new z step step.leaves.seat.keeps

  pub emptied_keeps : (zones : List (CountedZone H Part h)) (old new : Worker H Part h) (z : ℕ) → Reclaims zones HasDrainedSeat old z new → Reclaims zones Keeping old z new
  emptied_keeps zones old new z step = keeps_of zones HasDrainedSeat old new z step step.leaves.seat.keeps
