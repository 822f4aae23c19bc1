-- Each seat so far is a new one of its zone.
use Rattle.std.proofs.Common.{◌≡◌, length, ℕ}
use Rattle.std.specs.Prelude.{Some, slice_get}
use Rattle.replay_worker.specs.Items.{CountedSeat, CountedZone}
use Rattle.replay_worker.specs.Making.{IsNewSeat}
use Rattle.replay_worker.proofs.worker.new_seats.Given as goal

abbrev pub invariant-loop-zone : goal.invariant-loop-zone
invariant-loop-zone g l =
    record {
      count : length l.seats.items ≡ l.zone-index;
      each : (z : ℕ) (zone : CountedZone _ _ _) (seat : CountedSeat _ _ _) → slice_get l.zones z ≡ Some zone → slice_get l.seats.items z ≡ Some seat → IsNewSeat zone l.domain seat;
    }
